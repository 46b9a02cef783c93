-- The chain of errors from the squares to the edge ratio times the root of the area, over whole numbers: lengths, area
-- and the other values are numbers of units, w of them to 1. Assumes nothing.
use mathlib.Core.Path.{◌≡◌, refl, ap}
use Prim.Native.Nat.{ℕ, ◌*◌, ◌^◌, ◌≤◌, ◌<◌}
use native.Mathlib.Nat.{mul-le-mul, mul-le-mul_right, mul-pos}
use native.Mathlib.Omega.{arith}
use native.Mathlib.Bridge.{IsLe, le_by_compare}
use Rattle.rounding_errors.proofs.Near.{Near, near_le, near_eq, near_trans, near_mul, near_square, near_times, near_cancel, near_within}

-- ---- from the squares S, L and X to the extent p: r, l and x are their roots, q the ratio, h the area, g its root

module _ (w S L X r l x q h g p : ℕ) (W : 0 < w) where
  -- up to the ratio
  ratio_above : Near 3 (L * w) (l * l) → Near 1 (l * w) (q * r) → Near 10 (L * w * (L * w) * (w * w * (w * w))) (q * r * (q * r) * (q * r * (q * r)))
  ratio_above a b =
      let c : Near 6 (L * w * (L * w) * (w * w * (w * w))) (l * l * (l * l) * (w * w * (w * w))) = near_times (w * w * (w * w)) (near_square a) in
      let e : l * w * (l * w) * (l * w * (l * w)) ≡ l * l * (l * l) * (w * w * (w * w)) = omega arith in
      near_trans c (near_eq e refl (near_square (near_square b)))

  -- up to the root of the area
  area_above : Near 3 (X * w) (x * x) → Near 1 x (2 * h) → Near 3 (h * w) (g * g) → Near 11 (X * w * (w * w)) (4 * (g * g * (g * g)))
  area_above a b c =
      let d : Near 5 (X * w * (w * w)) (2 * h * (2 * h) * (w * w)) = near_times (w * w) (near_trans a (near_square b)) in
      let e : h * w * (h * w) * 4 ≡ 2 * h * (2 * h) * (w * w) = omega arith in
      let f : g * g * (g * g) * 4 ≡ 4 * (g * g * (g * g)) = omega arith in
      near_trans d (near_eq e f (near_times 4 (near_square c)))

  pub extent_above : Near 3 (r * r) (S * w) → Near 3 (L * w) (l * l) → Near 3 (X * w) (x * x) → Near 1 (l * w) (q * r) → Near 1 x (2 * h)
      → Near 3 (h * w) (g * g) → Near 1 (q * g) (p * w)
      → Near 31 (L * L * X * (w * w * w)) (4 * (p * p * (p * p)) * (S * S))
  extent_above a b c d e f i =
      let j : Near 21 (L * w * (L * w) * (w * w * (w * w)) * (X * w * (w * w))) (q * r * (q * r) * (q * r * (q * r)) * (4 * (g * g * (g * g)))) = near_mul
      (ratio_above b d) (area_above c e f) in
      let k : q * g * (q * g) * (q * g * (q * g)) * (r * r * (r * r) * 4) ≡ q * r * (q * r) * (q * r * (q * r)) * (4 * (g * g * (g * g))) = omega arith in
      let m : Near 4 (q * g * (q * g) * (q * g * (q * g)) * (r * r * (r * r) * 4)) (p * w * (p * w) * (p * w * (p * w)) * (r * r * (r * r) * 4)) = near_times
      (r * r * (r * r) * 4) (near_square (near_square i)) in
      let n : r * r * (r * r) * (p * w * (p * w) * (p * w * (p * w)) * 4) ≡ p * w * (p * w) * (p * w * (p * w)) * (r * r * (r * r) * 4) = omega arith in
      let o : Near 6 (r * r * (r * r) * (p * w * (p * w) * (p * w * (p * w)) * 4)) (S * w * (S * w) * (p * w * (p * w) * (p * w * (p * w)) * 4)) = near_times
      (p * w * (p * w) * (p * w * (p * w)) * 4) (near_square a) in
      let s : L * w * (L * w) * (w * w * (w * w)) * (X * w * (w * w)) ≡ L * L * X * (w * w * w) * (w * w * w * (w * w * w)) = omega arith in
      let t : S * w * (S * w) * (p * w * (p * w) * (p * w * (p * w)) * 4) ≡ 4 * (p * p * (p * p)) * (S * S) * (w * w * w * (w * w * w)) = omega arith in
      let u : 0 < w * w * w = mul-pos (mul-pos W W) W in
      near_cancel (w * w * w * (w * w * w)) (mul-pos u u) (near_eq s t (near_trans j (near_trans (near_eq k refl m) (near_eq n refl o))))

-- ---- the test: t times the square s of S is at most m X, m being the square of L

pub test_above : (w S L X s m n k t : ℕ) → 0 < w → Near 1 (S * S) (s * w) → Near 1 (t * s) (n * w) → n ≤ k → Near 1 (k * w) (m * X) → Near 1 (m * w) (L * L)
    → Near 4 (t * (S * S)) (L * L * X)
test_above w S L X s m n k t W a b h c d =
    let e : Near 1 (t * (S * S)) (t * s * w) = near_eq (left (S * S) t) (right s w t) (near_times t a) in
    let f : Near 2 (t * s) (m * X) = near_trans (near_trans b (near_le (mul-le-mul_right w h))) c in
    let g : Near 1 (m * X * w) (L * L * X) = near_eq (moved m w X) refl (near_times X d) in
    near_trans e (near_trans (near_times w f) g)
  where
    left : (a t : ℕ) → a * t ≡ t * a
    left a t = omega arith

    right : (s w t : ℕ) → s * w * t ≡ t * s * w
    right s w t = omega arith

    moved : (m w X : ℕ) → m * w * X ≡ m * X * w
    moved m w X = omega arith

-- ---- the limit t: 4.0001 times the fourth power of ℓ

pub limit_above : (w ℓ a b t v : ℕ) → 0 < w → v * 2097152 ≡ 8388818 * w → Near 1 (ℓ * ℓ) (a * w) → Near 1 (a * a) (b * w) → Near 1 (b * v) (t * w)
    → Near 4 (8388818 * (ℓ * ℓ * (ℓ * ℓ))) (2097152 * (t * (w * w * w)))
limit_above w ℓ a b t v W e f g h =
    let c : Near 2 (ℓ * ℓ * (ℓ * ℓ) * v) (a * w * (a * w) * v) = near_times v (near_square f) in
    let d : Near 1 (a * a * (w * w * v)) (b * w * (w * w * v)) = near_times (w * w * v) g in
    let i : Near 1 (b * v * (w * w * w)) (t * w * (w * w * w)) = near_times (w * w * w) h in
    let j : Near 4 (ℓ * ℓ * (ℓ * ℓ) * v) (t * w * (w * w * w)) = near_trans c (near_trans (near_eq (first a w v) refl d) (near_eq (second b w v) refl i)) in
    near_cancel w W (near_eq (third (ℓ * ℓ * (ℓ * ℓ)) v w e) (fourth t w) (near_times 2097152 j))
  where
    first : (a w v : ℕ) → a * a * (w * w * v) ≡ a * w * (a * w) * v
    first a w v = omega arith

    second : (b w v : ℕ) → b * v * (w * w * w) ≡ b * w * (w * w * v)
    second b w v = omega arith

    third : (f v w : ℕ) → v * 2097152 ≡ 8388818 * w → f * v * 2097152 ≡ 8388818 * f * w
    third f v w e = let i = ap (λ (z : ℕ). f * z) e in omega arith

    fourth : (t w : ℕ) → t * w * (w * w * w) * 2097152 ≡ 2097152 * (t * (w * w * w)) * w
    fourth t w = omega arith

-- ---- together: the bound is below the extent

pub bound_below : (w ℓ p S L X t : ℕ) → 0 < ℓ → 0 < S → Near 4 (8388818 * (ℓ * ℓ * (ℓ * ℓ))) (2097152 * (t * (w * w * w))) → Near 4 (t * (S * S)) (L * L * X)
    → Near 31 (L * L * X * (w * w * w)) (4 * (p * p * (p * p)) * (S * S)) → p ≤ ℓ → ⊥
unfolding IsLe
bound_below w ℓ p S L X t Z Y a b c h =
    let d : Near 4 (8388818 * (ℓ * ℓ * (ℓ * ℓ)) * (S * S)) (2097152 * (t * (w * w * w)) * (S * S)) = near_times (S * S) a in
    let e : Near 4 (t * (S * S) * (2097152 * (w * w * w))) (L * L * X * (2097152 * (w * w * w))) = near_times (2097152 * (w * w * w)) b in
    let f : Near 31 (L * L * X * (w * w * w) * 2097152) (4 * (p * p * (p * p)) * (S * S) * 2097152) = near_times 2097152 c in
    let g : Near 39 (8388818 * (ℓ * ℓ * (ℓ * ℓ)) * (S * S)) (4 * (p * p * (p * p)) * (S * S) * 2097152) =
    near_trans d (near_trans (near_eq (first t w S) refl e) (near_eq (second (L * L * X) w) refl f)) in
    let i : Near 39 (8388818 * (ℓ * ℓ * (ℓ * ℓ))) (8388608 * (p * p * (p * p))) = near_cancel (S * S) (mul-pos Y Y)
    (near_eq refl (third (p * p * (p * p)) (S * S)) g) in
    let j = near_within {p = 8388818 * (ℓ * ℓ * (ℓ * ℓ))} {q = 8388608 * (p * p * (p * p))} 39 200000 200001
    (le_by_compare (200000 * 16777216 ^ 39) (200001 * 16777215 ^ 39) tt) i in
    let k : p * p * (p * p) ≤ ℓ * ℓ * (ℓ * ℓ) = mul-le-mul (mul-le-mul h h) (mul-le-mul h h) in
    let l : 0 < ℓ * ℓ * (ℓ * ℓ) = mul-pos (mul-pos Z Z) (mul-pos Z Z) in
    margin (ℓ * ℓ * (ℓ * ℓ)) (p * p * (p * p)) j k l
  where
    first : (t w S : ℕ) → t * (S * S) * (2097152 * (w * w * w)) ≡ 2097152 * (t * (w * w * w)) * (S * S)
    first t w S = omega arith

    second : (f w : ℕ) → f * (w * w * w) * 2097152 ≡ f * (2097152 * (w * w * w))
    second f w = omega arith

    third : (f s : ℕ) → 4 * f * s * 2097152 ≡ 8388608 * f * s
    third f s = omega arith

    margin : (a b : ℕ) → 8388818 * a * 200000 ≤ 8388608 * b * 200001 → b ≤ a → 0 < a → ⊥
    margin a b j k l = omega arith
