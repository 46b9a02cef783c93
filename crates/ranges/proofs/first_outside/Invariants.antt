-- `ranges::first_outside` meets its contract. The loop's invariant: no value passed is outside. Assumes nothing.
use Rattle.ranges.specs.Range.{leading}
use lib.Ieee.{neg}
use lib.ListN.{drop}
use mathlib.Core.Path.{◌≡◌}
use Prim.Native.Nat.{◌+◌}
use Rattle.ranges.proofs.first_outside.Given as goal

abbrev pub invariant-loop-at : goal.invariant-loop-at
invariant-loop-at l = leading (neg l.bound) l.bound l.values ≡ l.at + leading (neg l.bound) l.bound (drop l.at l.values)
