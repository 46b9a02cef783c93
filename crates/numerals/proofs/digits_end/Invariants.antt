-- `numerals::digits_end` meets its contract: the digits before i and those from i on are those from `at` on. The
-- measure is how many are left. Assumes nothing.
use Prim.Native.Nat.{◌+◌, ◌≤◌}
use mathlib.Core.Path.{◌≡◌}
use lib.ListN.{drop}
use Rattle.numerals.specs.Format.{digits}
use Rattle.numerals.proofs.digits_end.Given as goal

abbrev pub invariant-loop-i : goal.invariant-loop-i
invariant-loop-i l = (l.at ≤ l.i) × (l.i + digits (drop l.i l.s) ≡ l.at + digits (drop l.at l.s))

abbrev pub decreases-loop-i : goal.decreases-loop-i
decreases-loop-i l = digits (drop l.i l.s)
