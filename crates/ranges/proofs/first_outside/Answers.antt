-- `ranges::first_outside` meets its contract. The loop's invariant: no value passed is outside. Assumes nothing.
use Rattle.ranges.proofs.Range.{leading_found, leading_passed}
use Rattle.ranges.specs.Range.{first_outside, leading}
use Prim.Native.Nat.{◌/◌, ◌≤◌, ◌<◌}
use native.Mathlib.Omega.{arith}
use lib.Ieee.{neg}
use lib.ListN.{length}
use borrow.Author.Tests.{lt-ltb, le-ltb}
use Rattle.ranges.proofs.first_outside.Goals as goal

pub returns-then-not-in_range : goal.returns-then-not-in_range
unfolding first_outside
returns-then-not-in_range c =
    let l = c.loop-at in
    let s = c.args in
    let e = leading_found _ _ s.values.now l.at _ c.in_range.ensures l.invariant c.if-not-in_range.true in
    let few : l.at / 3 < length s.values.now / 3 = omega arith in
    rw (e, lt-ltb (l.at / 3) (length s.values.now / 3) few)

pub loop-at-preserved : goal.loop-at-preserved
loop-at-preserved c =
    let l = c.loop-at in
    leading_passed _ _ _ l.at _ c.in_range.ensures l.invariant c.if-not-in_range.false

pub returns : goal.returns
unfolding first_outside
returns c =
    let l = c.loop-at in
    let s = c.args in
    let n = length s.values.now / 3 in
    let k = leading (neg s.bound) s.bound s.values.now / 3 in
    let past : n ≤ k = omega arith in
    rw (le-ltb k n past)
