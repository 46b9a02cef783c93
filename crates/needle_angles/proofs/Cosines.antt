-- Of the two cosines of a needle whose angles are not small, one is at most the other's opposite but for a margin
-- (`opposed`). Assumes nothing.
use mathlib.Core.Path.{refl}
use Prim.Native.Nat.{ℕ, suc, ◌+◌, ◌*◌, ◌^◌, ◌≤◌, ◌<◌}
use native.Mathlib.Nat.{mul-le-mul_right}
use native.Mathlib.Omega.{arith}
use native.Mathlib.Bridge.{IsLe, le_by_compare}
use native.Mathlib.Decide.{dec_le}
use mathlib.Core.Bool.{Bool, ◌&&◌}
use lib.Dec.{T, leb, leb→le}
use lib.Pow.{pow_pos}
use lib.Ieee.{Float, binary32, neg, le, of_bits}
use lib.Ieee.Fits.{and_l, and_r, mul-fits}
use lib.Ieee.Order.{le_of_values}
use Rattle.numbers.specs.Rounded.{f32, ◌⊕◌, ◌⊖◌, ◌⊗◌, ◌⊘◌}
use Rattle.numbers.proofs.OrderLaws.{le_trans}
use Rattle.numbers.proofs.RoundedOrder.{neg_le}
use Rattle.numbers.proofs.QuotientOrder.{div_monotone}
use Rattle.patterns.specs.Pattern.{units_of}
use Rattle.patterns.proofs.Pattern.{bits_value}
use Rattle.rounding_errors.proofs.Rounding.{Units, units_pos, units_positive}
use Rattle.rounding_errors.proofs.Operations.{mul_units, div_units, add_units, units_le}
use Rattle.slivers.specs.Inner.Slivers.{cosine_of}
use Rattle.slivers.proofs.Arc.{w, difference_le, difference_under, div_neg}
use Rattle.needle_angles.proofs.Opposite.{is_longer, is_apart, opposite, product_least, product_most, quotient_most, quotient_least}

abbrev two : Float
two = f32 0x40000000

pub two_units : Units two (2 * 2 ^ 149) 150 150
unfolding of_bits IsLe
two_units = record { value = (refl, refl); low = le_by_compare (2 ^ 150) (2 * 2 ^ 149) tt; high = le_by_compare (2 * 2 ^ 149) (2 ^ 150) tt }

-- ---- factors, by their bits

abbrev is_factor : ℕ → Bool
is_factor b = leb (suc b) 0x7f800000 && (leb (2 ^ 138) (units_of b) && leb (units_of b) (2 ^ 149))

factor_units : (b : ℕ) → T (is_factor b) → Units (f32 b) (units_of b) 138 149
factor_units b t =
    let u = and_r (leb (suc b) 0x7f800000) _ t in
    record {
      value = bits_value b (leb→le (suc b) 0x7f800000 (and_l (leb (suc b) 0x7f800000) _ t));
      low = leb→le (2 ^ 138) (units_of b) (and_l (leb (2 ^ 138) (units_of b)) _ u);
      high = leb→le (units_of b) (2 ^ 149) (and_r (leb (2 ^ 138) (units_of b)) _ u);
    }

-- t is above τ and r below ρ, and τ and ρ are apart
abbrev pub are_apart : ℕ → ℕ → ℕ → ℕ → ℕ → ℕ → Bool
are_apart K s t τ ρ r =
    is_factor t && (is_factor τ && (is_factor ρ && (is_factor r
    && (leb (suc (units_of τ * 1000001)) (units_of t * 1000000)
    && (leb (units_of r * 1000001) (units_of ρ * 1000000)
    && (leb s 4096 && (is_longer K s w (units_of τ) && is_apart K s w (units_of τ) (units_of ρ))))))))

-- ---- the cosines

module _ (K : ℕ) (large : 0 < K) (a b c : Float) (i j k : ℕ) (ua : Units a i 128 163) (ub : Units b j 128 163) (uc : Units c k 128 163) (near : i * K ≤ k)
    (far : k ≤ i * 8193) where
  -- by the units of the factors
  by_units : (s : ℕ) {t τ ρ r : Float} {n o p q : ℕ} → Units t n 138 149 → Units τ o 138 149 → Units ρ p 138 149 → Units r q 138 149 → o * 1000001 < n * 1000000
      → q * 1000001 ≤ p * 1000000 → s ≤ 4096 → T (is_longer K s w o) → T (is_apart K s w o p)
      → T (le t (cosine_of b c a)) → T (le (cosine_of c b a) (neg r))
  unfolding cosine_of
  by_units s {t} {τ} {ρ} {r} {n} {o} {p} {q} ut uτ uρ ur first second part longer apart h =
      let A = mul_units 107 177 ua ua tt in
      let B = mul_units 107 177 ub ub tt in
      let C = mul_units 107 177 uc uc tt in
      let P = add_units 107 178 C.is A.is tt tt in
      let Q = add_units 107 178 B.is A.is tt tt in
      let e = mul_units 129 164 two_units uc tt in
      let D = mul_units 108 178 e.is ua tt in
      let y = mul_units 97 178 uτ D.is tt in
      let g = div_units 68 219 y.is D.is tt in
      let e' = mul_units 129 164 two_units ub tt in
      let D' = mul_units 108 178 e'.is ua tt in
      let y' = mul_units 97 178 uρ D'.is tt in
      let g' = div_units 68 219 y'.is D'.is tt in
      let most : g.n * 1000000 ≤ o * 1000001 = quotient_most w o D.n y.n g.n (units_pos D.is) y.below g.below in
      let least : p * 1000000 ≤ g'.n * 1000001 = quotient_least w p D'.n y'.n g'.n (units_pos D'.is) y'.above g'.above in
      -- the numerator is above y
      let above : B.n + y.n ≤ P.n = go (dec_le P.n (B.n + y.n)) (λ l.
      units_le ut g.is (le_trans t ((c ⊗ c ⊕ a ⊗ a ⊖ b ⊗ b) ⊘ (two ⊗ c ⊗ a)) (τ ⊗ (two ⊗ c ⊗ a) ⊘ (two ⊗ c ⊗ a)) h
      (div_monotone (c ⊗ c ⊕ a ⊗ a ⊖ b ⊗ b) (τ ⊗ (two ⊗ c ⊗ a)) (two ⊗ c ⊗ a) (units_positive D.is)
      (difference_le (mul-fits binary32 τ (two ⊗ c ⊗ a)) P.is B.is y.is l)))) most in
      let under : Q.n + y'.n ≤ C.n =
      opposite K s w i j k large part (pow_pos 149) near far o A.n C.n y.n longer C.below A.below
      (product_least w o k i e.n D.n y.n (pow_pos 149) e.above D.above y.above) p y'.n apart
      (product_most w p j i e'.n D'.n y'.n (pow_pos 149) e'.below D'.below y'.below) B.n P.n Q.n above P.below Q.below
      B.above in
      le_trans ((b ⊗ b ⊕ a ⊗ a ⊖ c ⊗ c) ⊘ (two ⊗ b ⊗ a)) (neg (ρ ⊗ (two ⊗ b ⊗ a)) ⊘ (two ⊗ b ⊗ a)) (neg r)
      (div_monotone (b ⊗ b ⊕ a ⊗ a ⊖ c ⊗ c) (neg (ρ ⊗ (two ⊗ b ⊗ a))) (two ⊗ b ⊗ a) (units_positive D'.is)
      (difference_under (mul-fits binary32 ρ (two ⊗ b ⊗ a)) Q.is C.is y'.is under))
      (rw (div_neg (ρ ⊗ (two ⊗ b ⊗ a)) (two ⊗ b ⊗ a) (units_positive y'.is) (units_positive D'.is))
      (neg_le r (ρ ⊗ (two ⊗ b ⊗ a) ⊘ (two ⊗ b ⊗ a))
      (le_of_values r (ρ ⊗ (two ⊗ b ⊗ a) ⊘ (two ⊗ b ⊗ a)) q w g'.n w (pow_pos 149) (pow_pos 149) ur.value g'.is.value
      (mul-le-mul_right w (last g'.n least)))))
    where
      go : {P s g : ℕ} → Dec (P ≤ s) → (P ≤ s → n ≤ g) → g * 1000000 ≤ o * 1000001 → s ≤ P
      go (yes l) f m = let z = f l in absurd (omega arith)
      go (no l) f m = omega arith

      last : (g : ℕ) → p * 1000000 ≤ g * 1000001 → q ≤ g
      last g l = omega arith

  pub opposed : (s t τ ρ r : ℕ) → T (are_apart K s t τ ρ r) → T (le (f32 t) (cosine_of b c a)) → T (le (cosine_of c b a) (neg (f32 r)))
  opposed s t τ ρ r h =
      let h1 = and_r (is_factor t) _ h in
      let h2 = and_r (is_factor τ) _ h1 in
      let h3 = and_r (is_factor ρ) _ h2 in
      let h4 = and_r (is_factor r) _ h3 in
      let h5 = and_r (leb (suc (units_of τ * 1000001)) (units_of t * 1000000)) _ h4 in
      let h6 = and_r (leb (units_of r * 1000001) (units_of ρ * 1000000)) _ h5 in
      let h7 = and_r (leb s 4096) _ h6 in
      by_units s (factor_units t (and_l (is_factor t) _ h)) (factor_units τ (and_l (is_factor τ) _ h1)) (factor_units ρ (and_l (is_factor ρ) _ h2))
      (factor_units r (and_l (is_factor r) _ h3))
      (leb→le (suc (units_of τ * 1000001)) (units_of t * 1000000) (and_l (leb (suc (units_of τ * 1000001)) (units_of t * 1000000)) _ h4))
      (leb→le (units_of r * 1000001) (units_of ρ * 1000000) (and_l (leb (units_of r * 1000001) (units_of ρ * 1000000)) _ h5))
      (leb→le s 4096 (and_l (leb s 4096) _ h6)) (and_l (is_longer K s w (units_of τ)) _ h7) (and_r (is_longer K s w (units_of τ)) _ h7)
