-- `spatial_hash::walk::copy_points` meets its contract. Assumes nothing.
use Rattle.spatial_hash.proofs.Runs.{Copying}
use Rattle.spatial_hash.proofs.walk.copy_points.Given as goal

abbrev pub invariant-loop-i : goal.invariant-loop-i
invariant-loop-i l = Copying l.n l.initial.w l.from l.to l.count l.w l.total l.i
