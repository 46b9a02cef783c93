-- A look that finds a square not above its limit decides, and the last one always does. Assumes nothing.
use mathlib.Core.Path.{◌≡◌}
use lib.ListN.{length}
use Rattle.spatial_hash.specs.Inner.Near.{HashedAll}
use Rattle.estimate.proofs.nearest.least_distance.Given as goal

abbrev pub invariant-loop-look : goal.invariant-loop-look
invariant-loop-look l = HashedAll l.hash l.points l.n l.w × (length l.w ≡ length l.initial.w)
