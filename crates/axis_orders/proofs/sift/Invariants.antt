use Rattle.axis_orders.specs.Inner.Parted.{is_before_pivot}
use Rattle.axis_orders.proofs.Sifting.{Sifting}
use Rattle.vector.specs.Inner.Axes.{axis_index}
use Rattle.axis_orders.proofs.sift.Given as goal

abbrev pub invariant-loop-i : goal.invariant-loop-i
invariant-loop-i l = Sifting (is_before_pivot l.points (axis_index l.axis) l.at l.pivot) l.initial.list l.list l.initial.work l.work l.kept l.i
