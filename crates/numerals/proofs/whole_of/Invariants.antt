-- `numerals::whole_of` meets its contract: what the digits before i write, carried on over the rest, is what all write;
-- and k digits write less than 10 ^ k. Assumes nothing.
use Prim.Native.Nat.{◌-◌, ◌^◌, ◌≤◌, ◌<◌}
use mathlib.Core.Path.{◌≡◌}
use lib.ListN.{take, drop}
use Rattle.numerals.specs.Format.{digits, digits_value}
use Rattle.numerals.proofs.whole_of.Given as goal

abbrev pub invariant-loop-i : goal.invariant-loop-i
invariant-loop-i l =
    (l.end - l.i ≤ digits (drop l.i l.s)) × (digits_value l.v (take (l.end - l.i) (drop l.i l.s)) ≡ digits_value 0 (take (l.end - l.at) (drop l.at l.s)))
    × (l.v < 10 ^ (l.i - l.at))
