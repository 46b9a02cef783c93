-- `cloud::point_lines::count_points` meets its contract: the lines that were counted and those that are left are all.
-- The measure is the bytes left. Assumes nothing.
use Prim.Native.Nat.{◌-◌}
use lib.ListN.{length}
use Rattle.cloud.proofs.Lines.{Counting}
use Rattle.cloud.proofs.point_lines.count_points.Given as goal

abbrev pub invariant-loop-at : goal.invariant-loop-at
invariant-loop-at l = Counting l.s l.from l.count l.at

abbrev pub decreases-loop-at : goal.decreases-loop-at
decreases-loop-at l = length l.s - l.at
