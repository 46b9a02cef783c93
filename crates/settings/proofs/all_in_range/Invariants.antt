-- `settings::all_in_range` meets its contract. The loop's invariant: no slot passed is outside. Assumes nothing.
use Rattle.ranges.specs.Range.{leading}
use lib.ListN.{drop}
use mathlib.Core.Path.{◌≡◌}
use Prim.Native.Nat.{◌+◌}
use Rattle.settings.proofs.all_in_range.Given as goal

abbrev pub invariant-loop-k : goal.invariant-loop-k
invariant-loop-k l = leading l.lo l.hi l.xs ≡ l.k + leading l.lo l.hi (drop l.k l.xs)
