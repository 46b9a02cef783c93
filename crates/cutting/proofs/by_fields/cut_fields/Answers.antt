-- `cut_fields` meets its contract: each branch is the line of the definition that its tests lead to. No digit is
-- shifted out upwards.
use mathlib.Core.Path.{◌≡◌, ◌∙◌}
use mathlib.Core.Bool.{Bool, true, false}
use Prim.Native.Nat.{ℕ, ◌+◌, ◌-◌, ◌*◌, ◌/◌, ◌%◌, ◌^◌, ◌≤◌, ◌<◌}
use native.Mathlib.Nat.{lt_of_lt_of_le, mod-eq_of_lt}
use native.Mathlib.Omega.{arith}
use lib.Pow.{pow_mono, shl_lt}
use borrow.Author.Tests.{eq-eqb, ne_eqb, lt-ltb, le-ltb}
use Rattle.cutting.specs.CutFields.{cut_fields}
use Rattle.cutting.proofs.by_fields.cut_fields.Goals as goal

-- no digit is shifted out
unmoved : (e t : ℕ) → t < 2 ^ 23 → e < 159 → (8388608 + t) * 2 ^ (e - 150) % 2 ^ 32 ≡ (8388608 + t) * 2 ^ (e - 150)
unmoved e t h k = mod-eq_of_lt (lt_of_lt_of_le (shl_lt 24 (e - 150) (omega arith)) (pow_mono {j = 32} (omega arith)))

module _ (s : Bool) (e t : ℕ) where
  zero : e ≡ 0 → 0 ≡ cut_fields s e t
  unfolding cut_fields
  zero h = rw (eq-eqb e 0 h)

  below_one : (e ≡ 0 → ⊥) → e < 127 → 0 ≡ cut_fields s e t
  unfolding cut_fields
  below_one z h = rw (ne_eqb e 0 z, lt-ltb e 127 h)

  below_zero : 127 ≤ e → s ≡ true → 0 ≡ cut_fields s e t
  unfolding cut_fields
  below_zero h n = rw (ne_eqb e 0 (λ z. omega arith), le-ltb e 127 h, n)

  part : 127 ≤ e → s ≡ false → e < 150 → (8388608 + t) / 2 ^ (150 - e) ≡ cut_fields s e t
  unfolding cut_fields
  part h n k = rw (ne_eqb e 0 (λ z. omega arith), le-ltb e 127 h, n, lt-ltb e 150 k)

  whole : 150 ≤ e → s ≡ false → e < 159 → (8388608 + t) * 2 ^ (e - 150) ≡ cut_fields s e t
  unfolding cut_fields
  whole h n k = rw (ne_eqb e 0 (λ z. omega arith), le-ltb e 127 (omega arith), n, le-ltb e 150 h, lt-ltb e 159 k)

  past : 159 ≤ e → s ≡ false → e < 255 → 4294967295 ≡ cut_fields s e t
  unfolding cut_fields
  past h n k = rw (ne_eqb e 0 (λ z. omega arith), le-ltb e 127 (omega arith), n, le-ltb e 150 (omega arith), le-ltb e 159 h, lt-ltb e 255 k)

  none : 255 ≤ e → s ≡ false → 0 < t → 0 ≡ cut_fields s e t
  unfolding cut_fields
  none h n k = rw (
    ne_eqb e 0 (λ z. omega arith),
    le-ltb e 127 (omega arith),
    n,
    le-ltb e 150 (omega arith),
    le-ltb e 159
        (omega arith),
    le-ltb e 255 h,
    lt-ltb 0 t k,
  )

  infinity : 255 ≤ e → s ≡ false → t ≤ 0 → 4294967295 ≡ cut_fields s e t
  unfolding cut_fields
  infinity h n k = rw (
    ne_eqb e 0 (λ z. omega arith),
    le-ltb e 127 (omega arith),
    n,
    le-ltb e 150 (omega arith),
    le-ltb e 159
        (omega arith),
    le-ltb e 255 h,
    le-ltb 0 t k,
  )

-- the lines of the definition, by what the tests on the way say
pub returns-then-exponent-eq0 : goal.returns-then-exponent-eq0
returns-then-exponent-eq0 c = zero _ _ _ c.if-exponent-eq0.true

pub returns-then-exponent-lt127 : goal.returns-then-exponent-lt127
returns-then-exponent-lt127 c = below_one _ _ _ c.if-exponent-eq0.false c.if-exponent-lt127.true

pub returns-then-negative : goal.returns-then-negative
returns-then-negative c = below_zero _ _ _ c.if-exponent-lt127.false c.if-negative.true

pub returns-then-exponent-lt150 : goal.returns-then-exponent-lt150
returns-then-exponent-lt150 c = part _ _ _ c.if-exponent-lt127.false c.if-negative.false c.if-exponent-lt150.true

pub returns-then-exponent-lt159 : goal.returns-then-exponent-lt159
returns-then-exponent-lt159 c =
    unmoved c.args.exponent c.args.fraction c.requires c.if-exponent-lt159.true ∙ whole _ _ _ c.if-exponent-lt150.false c.if-negative.false c.if-exponent-lt159.true

pub returns-then-exponent-lt255 : goal.returns-then-exponent-lt255
returns-then-exponent-lt255 c = past _ _ _ c.if-exponent-lt159.false c.if-negative.false c.if-exponent-lt255.true

pub returns-then-fraction-gt0 : goal.returns-then-fraction-gt0
returns-then-fraction-gt0 c = none _ _ _ c.if-exponent-lt255.false c.if-negative.false c.if-fraction-gt0.true

pub returns : goal.returns
returns c = infinity _ _ _ c.if-exponent-lt255.false c.if-negative.false c.if-fraction-gt0.false
