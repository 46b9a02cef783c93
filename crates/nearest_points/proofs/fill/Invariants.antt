use Prim.Native.Nat.{◌/◌}
use lib.ListN.{length}
use Rattle.nearest_points.specs.Found.{number_at}
use Rattle.nearest_points.proofs.Filled.{Filled}
use Rattle.nearest_points.proofs.fill.Given as goal

abbrev pub invariant-loop-i : goal.invariant-loop-i
invariant-loop-i l = Filled (number_at l.points l.spots) (length l.spots / 3) l.initial.found l.i l.found
