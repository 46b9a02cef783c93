-- The least angle of a needle in each order of its edges: four orders measure the angle opposite to the short edge, and
-- two leave it over (`needle_bound`). Assumes nothing.
use mathlib.Core.Path.{subst}
use Prim.Native.Nat.{ℕ, suc, ◌*◌, ◌^◌, ◌≤◌, ◌<◌}
use native.Mathlib.Nat.{mul-le-mul_right, le_of_mul-le-mul_right}
use native.Mathlib.Nat as nat
use native.Mathlib.Omega.{arith}
use mathlib.Core.Bool.{Bool, not, ◌&&◌}
use mathlib.Core.List.{List}
use lib.Dec.{T, leb, leb→le, eqb, eqb→eq}
use lib.Pow.{pow-add, pow_pos}
use lib.Ieee.{Float, binary32, le, fits, is_nan}
use lib.Ieee.Fits.{and_l, and_r, mul-fits, div-fits}
use lib.Ieee.Order.{le_of_values}
use lib.Ieee.Positive.{positive-finite}
use Rattle.numbers.specs.Rounded.{f32, ◌⊕◌, ◌⊖◌, ◌⊗◌, ◌⊘◌}
use Rattle.numbers.proofs.OrderLaws.{le_left, le_trans}
use Rattle.numbers.proofs.SumOrder.{sub_number}
use Rattle.numbers.proofs.QuotientOrder.{div_monotone, div_number}
use Rattle.patterns.specs.Pattern.{units_of}
use Rattle.patterns.proofs.Pattern.{bits_value}
use Rattle.quality.specs.Measures.{angle, least}
use Rattle.rounding_errors.proofs.Rounding.{Units, units_pos, units_positive}
use Rattle.rounding_errors.proofs.Operations.{mul_units, div_units, add_units}
use Rattle.six_orders.specs.Inner.SixOrders.{InOrder, abc, acb, bac, bca, cab, cba, least_angle, AngleBound}
use Rattle.six_orders.proofs.Positive.{least_first, least_second}
use Rattle.slivers.specs.Inner.Slivers.{cosine_of}
use Rattle.slivers.proofs.Arc.{w, difference_over}
use Rattle.needle_angles.proofs.Opposite.{has_room, under_sum, product_most, quotient_least}
use Rattle.needle_angles.proofs.Cosines.{two_units, opposed}
use Rattle.needle_angles.proofs.LeftOver.{Step, are_all, small_angle, left_over}

abbrev two : Float
two = f32 0x40000000

-- ---- the angle opposite to the short edge

-- 8192ths
abbrev pub is_part : ℕ → ℕ → Bool
is_part b f = leb (suc b) 0x7f800000 && (eqb (units_of b) (f * 2 ^ 136) && (leb (2 ^ 148) (units_of b) && leb (units_of b) (2 ^ 149)))

part_units : (b f : ℕ) → T (is_part b f) → Units (f32 b) (f * 2 ^ 136) 148 149
part_units b f t =
    let t1 = and_r (leb (suc b) 0x7f800000) _ t in
    let t2 = and_r (eqb (units_of b) (f * 2 ^ 136)) _ t1 in
    subst (λ (n : ℕ). Units (f32 b) n 148 149) (eqb→eq (units_of b) (f * 2 ^ 136) (and_l (eqb (units_of b) (f * 2 ^ 136)) _ t1)) (record {
      value = bits_value b (leb→le (suc b) 0x7f800000 (and_l (leb (suc b) 0x7f800000) _ t));
      low = leb→le (2 ^ 148) (units_of b) (and_l (leb (2 ^ 148) (units_of b)) _ t2);
      high = leb→le (units_of b) (2 ^ 149) (and_r (leb (2 ^ 148) (units_of b)) _ t2);
    })

-- κ is n parts, and one more is the factor φ
module _ (κ φ n : ℕ) (pκ : T (is_part κ n)) (pφ : T (is_part φ (suc n))) (K : ℕ) (some : 0 < K) (room : T (has_room K (suc n))) where
  large_cosine : (a b c : Float) (i j k : ℕ) → Units a i 128 163 → Units b j 128 163 → Units c k 128 163 → i * K ≤ j → i * K ≤ k
      → T (le (f32 κ) (cosine_of a b c))
  unfolding cosine_of
  large_cosine a b c i j k ua ub uc near near' =
      let A = mul_units 107 177 ua ua tt in
      let B = mul_units 107 177 ub ub tt in
      let C = mul_units 107 177 uc uc tt in
      let S = add_units 107 178 B.is C.is tt tt in
      let e = mul_units 129 164 two_units ub tt in
      let D = mul_units 108 178 e.is uc tt in
      let y = mul_units 107 178 (part_units φ (suc n) pφ) D.is tt in
      let g = div_units 78 219 y.is D.is tt in
      let under = under_sum w (2 ^ 136) i j k K (suc n) (pow_pos 136) (pow-add 2 13 136) some room near near' A.n B.n C.n S.n y.n A.below
      B.above C.above S.above (product_most w (suc n * 2 ^ 136) j k e.n D.n y.n (pow_pos 149) e.below D.below y.below) in
      let least = quotient_least w (suc n * 2 ^ 136) D.n y.n g.n (units_pos D.is) y.above g.above in
      let d = two ⊗ b ⊗ c in
      le_trans (f32 κ) (f32 φ ⊗ d ⊘ d) ((b ⊗ b ⊕ c ⊗ c ⊖ a ⊗ a) ⊘ d)
      (le_of_values (f32 κ) (f32 φ ⊗ d ⊘ d) (n * 2 ^ 136) w g.n w (pow_pos 149) (pow_pos 149) (part_units κ n pκ).value g.is.value
      (mul-le-mul_right w (last n (2 ^ 136) g.n small least)))
      (div_monotone (f32 φ ⊗ d) (b ⊗ b ⊕ c ⊗ c ⊖ a ⊗ a) d (units_positive D.is)
      (difference_over (mul-fits binary32 (f32 φ) d) S.is A.is y.is under))
    where
      fewer : (n p : ℕ) → 0 < p → n * p ≤ 8192 * p → n ≤ 8192
      fewer n p W h = le_of_mul-le-mul_right h W

      small : n ≤ 8192
      small = fewer n (2 ^ 136) (pow_pos 136) (nat.le_trans (part_units κ n pκ).high (nat.le_of_eq (pow-add 2 13 136)))

      last : (n p g : ℕ) → n ≤ 8192 → suc n * p * 1000000 ≤ g * 1000001 → n * p ≤ g
      last n p g l h = let m : n * p ≤ 8192 * p = mul-le-mul_right p l in omega arith

-- ---- all six

module _ (K : ℕ) (some : 0 < K) (θ : Float) (κ : ℕ) (m : Float) (steps : List Step) (all : T (are_all K θ κ m steps)) (φ n : ℕ) (pκ : T (is_part κ n))
    (pφ : T (is_part φ (suc n))) (room : T (has_room K (suc n)))
    (a b c : Float) (i j k : ℕ) (ua : Units a i 128 163) (ub : Units b j 128 163) (uc : Units c k 128 163) (near : i * K ≤ j) (near' : i * K ≤ k)
    (far : j ≤ i * 8193) (far' : k ≤ i * 8193) where
  cosine_fits : (u v x : Float) → T (fits binary32 (cosine_of u v x))
  unfolding cosine_of
  cosine_fits u v x = div-fits binary32 (v ⊗ v ⊕ x ⊗ x ⊖ u ⊗ u) (two ⊗ v ⊗ x)

  cosine_number : {u v : Float} {p q : ℕ} → Units u p 128 163 → Units v q 128 163 → T (not (is_nan (cosine_of u v a)))
  unfolding cosine_of
  cosine_number {u} {v} r s =
      let A = mul_units 107 177 ua ua tt in
      let E = mul_units 107 177 r r tt in
      let F = mul_units 107 177 s s tt in
      let S = add_units 107 178 F.is A.is tt tt in
      let D = mul_units 108 178 (mul_units 129 164 two_units s tt).is ua tt in
      div_number (v ⊗ v ⊕ a ⊗ a ⊖ u ⊗ u) (two ⊗ v ⊗ a) (units_positive D.is)
      (sub_number (v ⊗ v ⊕ a ⊗ a) (u ⊗ u) (positive-finite (v ⊗ v ⊕ a ⊗ a) (units_positive S.is)) (positive-finite (u ⊗ u) (units_positive E.is)))

  short_angle : {u v : Float} {p q : ℕ} → Units u p 128 163 → Units v q 128 163 → i * K ≤ p → i * K ≤ q → T (le (angle a u v) θ)
  unfolding angle cosine_of
  short_angle {u} {v} {p} {q} r s h l =
      small_angle K θ κ m steps all (cosine_of a u v) (cosine_fits a u v) (large_cosine κ φ n pκ pφ K some room a u v i p q ua r s h l)

  by_first : (p q r : Float) → T (le p θ) → T (le (least p q r) θ)
  by_first p q r h = le_trans (least p q r) p θ (least_first p q r (le_left p θ h)) h

  by_second : (p q r : Float) → T (le q θ) → T (le (least p q r) θ)
  by_second p q r h = le_trans (least p q r) q θ (least_second p q r (le_left q θ h)) h

  both : T (le (least_angle b c a) θ) × T (le (least_angle c b a) θ)
  unfolding least_angle angle cosine_of
  both = left_over K θ κ m steps all (cosine_of b c a) (cosine_of c b a) (cosine_fits b c a) (cosine_fits c b a) (cosine_number ub uc) (cosine_number uc ub)
      (opposed K some a b c i j k ua ub uc near' far') (opposed K some a c b i k j ua uc ub near far)

  bounded : {u v x : Float} → InOrder a b c u v x → T (le (least_angle u v x) θ)
  unfolding least_angle
  bounded abc = by_first (angle a b c) (angle b a c) _ (short_angle ub uc near near')
  bounded acb = by_first (angle a c b) (angle c a b) _ (short_angle uc ub near' near)
  bounded bac = by_second (angle b a c) (angle a b c) _ (short_angle ub uc near near')
  bounded cab = by_second (angle c a b) (angle a c b) _ (short_angle uc ub near' near)
  bounded bca = both.0
  bounded cba = both.1

  pub needle_bound : AngleBound a b c θ
  needle_bound = record { most = λ u v x o n. bounded o }
