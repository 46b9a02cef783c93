-- `read_bits` meets its contract: what it gives stands for the pattern's number, and has 24 digits.
use mathlib.Core.Path.{◌≡◌, sym, ap, ◌∙◌, subst}
use Prim.Native.Nat.{ℕ, suc, ◌+◌, ◌-◌, ◌*◌, ◌%◌, ◌^◌, ◌≤◌, ◌<◌}
use native.Mathlib.Nat.{lt_of_le_of_lt, mod-eq_of_lt}
use native.Mathlib.Omega.{arith}
use lib.Pow.{shl_lt}
use lib.Count.{count_leading_zeros, leading_top}
use Rattle.numbers.proofs.RootPattern.{shl_ge, pow_lt_back}
use Rattle.numbers.proofs.RootUnits.{small_scaled, normal_scaled}
use Rattle.numbers.proofs.root.read_bits.Goals.{Then-e-eq0}
use Rattle.numbers.proofs.root.read_bits.Goals as goal

-- z leading zeros of 32 leave t short of 24 digits by z - 8
record Moved (t z : ℕ) : Type 0 where
  enough : 8 ≤ z
  few : z - 8 ≤ 23
  low : 2 ^ 23 ≤ t * 2 ^ (z - 8)
  high : t * 2 ^ (z - 8) < 2 ^ 24

moved : (t : ℕ) → 0 < t → t < 2 ^ 23 → Moved t (count_leading_zeros 32 t)
moved t p h =
    let w = leading_top 32 t p (omega arith) in
    let j = w.0 in
    let z = count_leading_zeros 32 t in
    let J : j < 23 = pow_lt_back j 23 (lt_of_le_of_lt w.2 h) in
    let lo : 23 ≡ j + (z - 8) = omega (arith, w.1) in
    let hi : 24 ≡ suc j + (z - 8) = omega (arith, w.1) in
    record {
      enough = omega (arith, w.1);
      few = omega (arith, w.1);
      low = subst (λ (n : ℕ). 2 ^ n ≤ t * 2 ^ (z - 8)) (sym lo) (shl_ge j (z - 8) w.2);
      high = subst (λ (n : ℕ). t * 2 ^ (z - 8) < 2 ^ n) (sym hi) (shl_lt (suc j) (z - 8) w.3);
    }

mv : (c : Then-e-eq0) → Moved (c.args.b % 8388608) (count_leading_zeros 32 (c.args.b % 8388608))
mv c = moved (c.args.b % 8388608) (omega (arith, c.if-e-eq0.true)) (omega arith)

-- no digit is shifted out
shifted : (t z : ℕ) → Moved t z → t * 2 ^ (z - 8) % 2 ^ 32 ≡ t * 2 ^ (z - 8)
shifted t z m = let h = m.high in mod-eq_of_lt (omega arith)

pub overflow_sub-z : goal.overflow_sub-z
overflow_sub-z c = (mv c).enough

pub overflow_shl-result : goal.overflow_shl-result
overflow_shl-result c = omega (arith, (mv c).few)

pub overflow_sub-result : goal.overflow_sub-result
overflow_sub-result c = omega (arith, (mv c).few)

pub returns-then-e-eq0 : goal.returns-then-e-eq0
returns-then-e-eq0 c =
    let b = c.args.b in
    let m = mv c in
    let e = shifted _ _ m in
    let t : b % 8388608 ≡ b = mod-eq_of_lt (omega (arith, c.if-e-eq0.true)) in (
      rw e m.low,
      rw e m.high,
      omega (arith, m.few),
      small_scaled b _ _ (omega (arith, c.if-e-eq0.true)) (e ∙ ap (λ (n : ℕ). n * 2 ^ (count_leading_zeros 32 (b % 8388608) - 8)) t) m.few,
    )

pub returns-else-e-eq0 : goal.returns-else-e-eq0
returns-else-e-eq0 c = (omega arith, omega arith, omega arith, normal_scaled c.args.b (omega (arith, c.if-e-eq0.false)) c.requires.1)
