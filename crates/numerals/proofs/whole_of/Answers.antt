-- `numerals::whole_of` meets its contract: what the digits before i write, carried on over the rest, is what all write;
-- and k digits write less than 10 ^ k. Assumes nothing.
use Prim.Native.Nat.{ℕ, ◌-◌, ◌^◌, ◌≤◌, ◌<◌}
use mathlib.Core.Path.{◌≡◌, refl, sym, ◌∙◌}
use native.Mathlib.Nat.{sub_self}
use native.Mathlib.Omega.{arith}
use borrow.Author.Rules.{rules}
use Rattle.numerals.specs.Format.{digits_value}
use Rattle.numerals.proofs.Bytes.{next_digit, grow, small}
use Rattle.numerals.proofs.whole_of.Goals as goal

pub loop-i-init : goal.loop-i-init
loop-i-init c = let p = c.requires in (p.all, refl, rw (sub_self c.args.at) (search rules))

pub bounds-s-i : goal.bounds-s-i
bounds-s-i c = (next_digit _ _ _ c.loop-i.v c.loop-i-test.true c.loop-i.invariant.0).inside

-- five digits at most came before i
v_small : (v i at end : ℕ) → v < 10 ^ (i - at) → i < end → end - at ≤ 6 → v < 100000
v_small v i at end below within few = small _ (i - at) below (omega arith)

pub overflow_mul-v : goal.overflow_mul-v
overflow_mul-v c = let b = v_small _ _ _ _ c.loop-i.invariant.2 c.loop-i-test.true c.requires.few in omega arith

pub overflow_sub-s : goal.overflow_sub-s
overflow_sub-s c = (next_digit _ _ _ c.loop-i.v c.loop-i-test.true c.loop-i.invariant.0).low

pub overflow_add-v : goal.overflow_add-v
overflow_add-v c =
    let b = v_small _ _ _ _ c.loop-i.invariant.2 c.loop-i-test.true c.requires.few in
    let h = (next_digit _ _ _ c.loop-i.v c.loop-i-test.true c.loop-i.invariant.0).high in
    omega arith

pub loop-i-preserved : goal.loop-i-preserved
loop-i-preserved c =
    let d = next_digit _ _ _ c.loop-i.v c.loop-i-test.true c.loop-i.invariant.0 in
    let i = c.loop-i.invariant in
    rw c.from.ensures (d.rest, sym d.same ∙ i.1, grow _ _ _ _ c.loop-i.auto.i i.2 d.high)

pub returns : goal.returns
unfolding digits_value
returns c =
    let i = c.loop-i.invariant in
    let none : c.args.end - c.loop-i.i ≡ 0 = omega arith in
    let end : c.loop-i.i ≡ c.args.end = omega (arith, c.requires.ordered) in
    (rw none at i.1, rw end at i.2)
