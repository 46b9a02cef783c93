-- `coverage::mark_reached` meets its contract. The loop's invariant: the marks are those of the numbers that were
-- passed. Assumes nothing.
use mathlib.Core.Path.{◌≡◌}
use Prim.Native.Nat.{◌≤◌}
use lib.Dec.{eqb}
use lib.ListN.{length, take}
use Rattle.coverage.specs.Coverage.{reached_marks as marks_of}
use Rattle.lists.specs.Lists.{count}
use Rattle.coverage.proofs.mark_reached.Given as goal

abbrev pub invariant-loop-point : goal.invariant-loop-point
invariant-loop-point l =
    (l.total ≤ l.point-index) × (l.reached ≡ marks_of (take l.point-index l.faces) (length l.initial.reached))
    × (l.total ≡ count (eqb 1) l.reached)
