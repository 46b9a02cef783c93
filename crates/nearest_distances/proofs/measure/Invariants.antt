-- `measure` meets its contract: a distance a spot, one behind the other. Assumes nothing.
use Prim.Native.Nat.{◌/◌}
use lib.ListN.{length}
use Rattle.nearest_points.proofs.Filled.{Filled}
use Rattle.nearest_distances.specs.Measured.{distance_at}
use Rattle.nearest_distances.proofs.measure.Given as goal

abbrev pub invariant-loop-i : goal.invariant-loop-i
invariant-loop-i l = Filled (distance_at l.points l.spots) (length l.spots / 3) l.initial.distances l.i l.distances
