-- An f32 quotient is at least 1 if the divisor is above 0 and at most the dividend (`ratio_above`), and an f32 product
-- at least one factor if the other is at least 1 (`mul_above`). Assumes nothing.
use mathlib.Core.Path.{◌≡◌, refl, subst}
use Prim.Native.Nat.{ℕ, zero, suc, ◌+◌, ◌*◌, ◌≤◌, ◌<◌}
use native.Mathlib.Nat.{mul-pos, mul-le-mul_right, zero-lt-suc}
use native.Mathlib.Omega.{arith}
use mathlib.Core.Bool.{true, false}
use lib.IntN.{ℤ}
use lib.Dec.{T, eqb-suc-zero}
use lib.Ieee.{Float, nan, inf, fin, binary32, up, down, round, mul, div, lt, le, fits, of_bits, is_nan}
use lib.Ieee.Fits.{up_pos, down_pos}
use lib.Ieee.Order.{round_mono}
use lib.Ieee.Scale.{finite}
use Rattle.numbers.specs.Rounded.{f32, ◌⊗◌, ◌⊘◌}
use Rattle.numbers.proofs.OrderLaws.{le→side, lt_le, le_right, le_top, lt_le_trans, positive_unsigned, nothing_below}
use Rattle.numbers.proofs.RoundedOrder.{above, rounds_le, rounds_own}

abbrev one : Float
one = f32 0x3f800000

one_is : round binary32 false 1 1 ≡ one
unfolding round of_bits
one_is = refl

-- ---- a quotient

round_above_one : (a c : ℕ) → 0 < c → c ≤ a → T (le one (round binary32 false a c))
round_above_one a c C h = subst (λ (x : Float). T (le x (round binary32 false a c))) one_is (round_mono binary32 1 1 a c (zero-lt-suc 0) C (omega arith))

pub ratio_above : (x y : Float) → T (finite x) → T (finite y) → T (lt (f32 0) y) → T (le y x) → T (le one (x ⊘ y))
ratio_above nan y f g p h = absurd f
ratio_above (inf s) y f g p h = absurd f
ratio_above (fin s m e) nan f g p h = absurd g
ratio_above (fin s m e) (inf t) f g p h = absurd g
ratio_above (fin true m e) (fin t n d) f g p h = absurd (positive_unsigned (fin true m e) (lt_le_trans (f32 0) (fin t n d) (fin true m e) p h))
ratio_above (fin false m e) (fin true n d) f g p h = absurd (positive_unsigned (fin true n d) p)
ratio_above (fin false m e) (fin false zero d) f g p h = absurd (nothing_below d p)
ratio_above (fin false m e) (fin false (suc n) d) f g p h =
    unfold div in rw (eqb-suc-zero n)
    (round_above_one (m * up e * down d) (suc n * up d * down e) (mul-pos (mul-pos (zero-lt-suc n) (up_pos d)) (down_pos e))
    (omega (arith, le→side (fin false (suc n) d) (fin false m e) tt tt h)))

-- ---- a product

finite_above : (m : ℕ) (e : ℤ) (n : ℕ) (d : ℤ) → T (fits binary32 (fin false n d)) → T (le one (fin false m e))
    → T (le (fin false n d) (fin false m e ⊗ fin false n d))
unfolding mul
finite_above m e n d f h =
    let a = m * up e * (n * up d) in
    let z : a ≡ 0 + a = omega arith in
    rounds_le (down_pos d) (mul-pos (down_pos e) (down_pos d)) (rounds_own (fin false n d) f tt) (above a z refl)
    (go (m * up e) (down e) (n * up d) (down d) (unfold of_bits in le→side one (fin false m e) tt tt h))
  where
    go : (p c q d : ℕ) → 1 * c + 0 * 1 ≤ p * 1 + 0 * c → q * (c * d) + 0 * d ≤ p * q * d + 0 * (c * d)
    go p c q d h = let k : c ≤ p = omega arith in omega (arith, mul-le-mul_right (q * d) k)

one_positive : T (lt (f32 0) one)
unfolding lt of_bits
one_positive = tt

infinite_above : (x : Float) → T (lt (f32 0) x) → (inf false ⊗ x ≡ inf false) × (x ⊗ inf false ≡ inf false)
unfolding mul
infinite_above nan p = absurd (unfold lt of_bits in p)
infinite_above (inf true) p = absurd (unfold lt of_bits in p)
infinite_above (inf false) p = (refl, refl)
infinite_above (fin true n d) p = absurd (positive_unsigned (fin true n d) p)
infinite_above (fin false zero d) p = absurd (nothing_below d p)
infinite_above (fin false (suc n) d) p = (rw (eqb-suc-zero n), rw (eqb-suc-zero n))

pub mul_above : (x r : Float) → T (fits binary32 r) → T (le one x) → T (lt (f32 0) r) → T (le r (x ⊗ r))
mul_above x r f h p = go x r f h p (lt_le_trans (f32 0) one x one_positive h)
  where
    go : (x r : Float) → T (fits binary32 r) → T (le one x) → T (lt (f32 0) r) → T (lt (f32 0) x) → T (le r (x ⊗ r))
    go nan r f h p q = absurd (positive_unsigned nan q)
    go (inf true) r f h p q = absurd (positive_unsigned (inf true) q)
    go (inf false) r f h p q = rw (infinite_above r p).0 (le_top r (le_right (f32 0) r (lt_le (f32 0) r p)))
    go (fin true m e) r f h p q = absurd (positive_unsigned (fin true m e) q)
    go (fin false m e) nan f h p q = absurd (positive_unsigned nan p)
    go (fin false m e) (inf true) f h p q = absurd (positive_unsigned (inf true) p)
    go (fin false m e) (inf false) f h p q = rw (infinite_above (fin false m e) q).1 (le_top (inf false) (unfold is_nan in tt))
    go (fin false m e) (fin true n d) f h p q = absurd (positive_unsigned (fin true n d) p)
    go (fin false m e) (fin false n d) f h p q = finite_above m e n d f h
