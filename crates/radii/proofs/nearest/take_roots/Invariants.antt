-- `radii::nearest::take_roots` meets its contract. Assumes nothing.
use Rattle.radii.proofs.Summing.{Rooted}
use Rattle.radii.proofs.nearest.take_roots.Given as goal

abbrev pub invariant-loop-x : goal.invariant-loop-x
invariant-loop-x l = Rooted l.initial.x-items l.x-items l.x-index
