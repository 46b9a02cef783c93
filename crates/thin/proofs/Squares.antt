-- The chain of errors from the squares to the aspect ratio, over whole numbers: lengths, area and the other values are
-- numbers of units, w of them to 1. Assumes nothing.
use mathlib.Core.Path.{◌≡◌, refl}
use Prim.Native.Nat.{ℕ, ◌+◌, ◌*◌, ◌^◌, ◌≤◌, ◌<◌}
use native.Mathlib.Nat.{mul-le-mul, mul-le-mul_right, mul-pos}
use native.Mathlib.Omega.{arith}
use native.Mathlib.Bridge.{IsLe, le_by_compare}
use Rattle.rounding_errors.proofs.Near.{Near, near_le, near_eq, near_trans, near_mul, near_add, near_square, near_times, near_cancel, near_root, near_within}
use Rattle.rounding_errors.proofs.Near.{square_back}

-- ---- the product of two lengths is at least what is at most both squares

pub lengths_product : (w m A B x y : ℕ) → m ≤ A → m ≤ B → Near 3 (A * w) (x * x) → Near 3 (B * w) (y * y) → Near 3 (m * w) (x * y)
lengths_product w m A B x y h k a b =
    let s : m * w * (m * w) ≤ A * w * (B * w) = mul-le-mul (mul-le-mul_right w h) (mul-le-mul_right w k) in
    let e : x * x * (y * y) ≡ x * y * (x * y) = omega arith in
    near_root (near_eq refl e (near_trans (near_le s) (near_mul a b)))

-- the square of the sum of the lengths
pub lengths_sum : (w A B C l m n x y z : ℕ) → Near 3 (A * w) (x * x) → Near 3 (B * w) (y * y) → Near 3 (C * w) (z * z) → Near 3 (l * w) (x * y)
    → Near 3 (m * w) (y * z) → Near 3 (n * w) (z * x)
    → Near 3 ((A + B + C + 2 * (l + m + n)) * w) ((x + y + z) * (x + y + z))
lengths_sum w A B C l m n x y z a b c d e f =
    let p : A * w + B * w + C * w + (l * w + m * w + n * w) * 2 ≡ (A + B + C + 2 * (l + m + n)) * w = omega arith in
    let q : x * x + y * y + z * z + (x * y + y * z + z * x) * 2 ≡ (x + y + z) * (x + y + z) = omega arith in
    near_eq p q (near_add (near_add (near_add a b) c) (near_times 2 (near_add (near_add d e) f)))

-- ---- over and under the ratio's bar

-- r is the cross product's length, g the area, h half the edges' sum, f four times the area, q the inradius
module _ (w X r g h f q : ℕ) where
  pub above_bar : Near 3 (r * r) (X * w) → Near 1 (2 * g) r → Near 1 (q * h) (g * w) → Near 1 f (4 * g)
      → Near 14 (q * h * f * (q * h * f)) (X * X * (w * w) * (w * w))
  above_bar a b c d =
      let s : Near 5 (2 * g * (2 * g)) (X * w) = near_trans (near_square b) a in
      let t : Near 10 (2 * g * (2 * g) * (2 * g * (2 * g)) * (w * w)) (X * w * (X * w) * (w * w)) = near_times (w * w) (near_square s) in
      let u : Near 4 (q * h * f * (q * h * f)) (g * w * (4 * g) * (g * w * (4 * g))) = near_square (near_mul c d) in
      let e : g * w * (4 * g) * (g * w * (4 * g)) ≡ 2 * g * (2 * g) * (2 * g * (2 * g)) * (w * w) = omega arith in
      let i : X * w * (X * w) * (w * w) ≡ X * X * (w * w) * (w * w) = omega arith in
      near_eq refl i (near_trans (near_eq refl e u) t)

-- x, y, z are the lengths, s their sum, p1 and p products, ρ the circumradius
module _ (w A B C S x y z s h p1 p f ρ : ℕ) (W : 0 < w) where
  pub sum_below : Near 3 (S * w) ((x + y + z) * (x + y + z)) → Near 2 (x + y + z) s → Near 1 s (2 * h) → Near 9 (S * w) (4 * (h * h))
  sum_below a b c =
      let e : 2 * h * (2 * h) ≡ 4 * (h * h) = omega arith in
      near_eq refl e (near_trans a (near_square (near_trans b c)))

  pub product_below : Near 3 (A * w) (x * x) → Near 3 (B * w) (y * y) → Near 3 (C * w) (z * z) → Near 1 (x * y) (p1 * w) → Near 1 (p1 * z) (p * w)
      → Near 1 (p * w) (ρ * f) → Near 15 (A * B * C * w) (ρ * f * (ρ * f))
  product_below a b c d e i =
      let l : Near 9 (A * w * (B * w) * (C * w)) (x * x * (y * y) * (z * z)) = near_mul (near_mul a b) c in
      let m : Near 3 (x * y * z) (ρ * f * w) =
      near_trans (near_times z d) (near_trans (near_eq (omega' p1 z w) refl (near_times w e)) (near_times w i)) in
      let j : x * x * (y * y) * (z * z) ≡ x * y * z * (x * y * z) = omega arith in
      let k : A * w * (B * w) * (C * w) ≡ A * B * C * w * (w * w) = omega arith in
      let n : ρ * f * w * (ρ * f * w) ≡ ρ * f * (ρ * f) * (w * w) = omega arith in
      near_cancel (w * w) (mul-pos W W) (near_eq k n (near_trans (near_eq refl j l) (near_square m)))
    where
      omega' : (p z w : ℕ) → p * z * w ≡ p * w * z
      omega' p z w = omega arith

-- ---- the test

-- e is the square of the cross product's square X, and N what it is compared with: the limit t times S, times the
-- product P of the squares
pub test_near : (w X e N k P P1 t S s A B C : ℕ) → Near 1 (X * X) (e * w) → e ≤ N → Near 1 (N * w) (k * P) → Near 1 (k * w) (t * S) → Near 1 (P * w) (P1 * C)
    → Near 1 (P1 * w) (A * B) → Near 4 S s
    → Near 9 (X * X * (w * w * w)) (t * s * (A * B * C))
test_near w X e N k P P1 t S s A B C a h b c d i j =
    let l : Near 2 (X * X) (k * P) = near_trans (near_trans a (near_le (mul-le-mul_right w h))) b in
    let m : Near 2 (k * w * (P * w)) (t * S * (P1 * C)) = near_mul c d in
    let n : Near 4 (X * X * (w * w)) (t * S * (P1 * C)) = near_trans (near_times (w * w) l) (near_eq (twice k P w) refl m) in
    let o : Near 5 (X * X * (w * w) * w) (A * B * (t * S * C)) = near_trans (near_times w n) (near_eq (thrice t S P1 C w) refl (near_times (t * S * C) i)) in
    let p : Near 9 (X * X * (w * w) * w) (s * (t * (A * B * C))) = near_trans o (near_eq (last t S A B C) refl (near_times (t * (A * B * C)) j)) in
    near_eq (cube X w) (order s t (A * B * C)) p
  where
    twice : (k P w : ℕ) → k * w * (P * w) ≡ k * P * (w * w)
    twice k P w = omega arith

    thrice : (t S P1 C w : ℕ) → P1 * w * (t * S * C) ≡ t * S * (P1 * C) * w
    thrice t S P1 C w = omega arith

    last : (t S A B C : ℕ) → S * (t * (A * B * C)) ≡ A * B * (t * S * C)
    last t S A B C = omega arith

    cube : (X w : ℕ) → X * X * (w * w) * w ≡ X * X * (w * w * w)
    cube X w = omega arith

    order : (s t p : ℕ) → s * (t * p) ≡ t * s * p
    order s t p = omega arith

-- ---- the ratio

-- 47 errors are less than a part of 2 ^ -17
near_margin : {p q : ℕ} → Near 47 (131072 * (p * p)) (131071 * (q * q)) → p ≤ q
unfolding IsLe
near_margin {p} {q} h =
    let i = near_within {p = 131072 * (p * p)} {q = 131071 * (q * q)} 47 131071 131072 (le_by_compare (131071 * 16777216 ^ 47) (131072 * 16777215 ^ 47) tt) h in
    square_back p q (omega arith)

-- t is the limit, α the bound
module _ (w X S P t α q h f ρ : ℕ) (W : 0 < w) (H : 0 < h) (F : 0 < f) where
  pub ratio_below : Near 9 (X * X * (w * w * w)) (t * S * P) → 524288 * t * w ≤ 131071 * (α * α) → Near 14 (q * h * f * (q * h * f)) (X * X * (w * w) * (w * w))
      → Near 9 (S * w) (4 * (h * h))
      → Near 15 (P * w) (ρ * f * (ρ * f)) → q * w ≤ α * ρ
  ratio_below passed short over sums products =
      let a : Near 14 (q * h * f * (q * h * f) * (524288 * (w * w))) (X * X * (w * w) * (w * w) * (524288 * (w * w))) = near_times (524288 * (w * w)) over in
      let b : Near 9 (X * X * (w * w * w) * (524288 * w * (w * w))) (t * S * P * (524288 * w * (w * w))) = near_times (524288 * w * (w * w)) passed in
      let c : 524288 * t * w * (S * P * (w * w)) ≤ 131071 * (α * α) * (S * P * (w * w)) = mul-le-mul_right (S * P * (w * w)) short in
      let d : Near 24 (S * w * (P * w) * (131071 * (α * α))) (4 * (h * h) * (ρ * f * (ρ * f)) * (131071 * (α * α))) = near_times (131071 * (α * α))
      (near_mul sums products) in
      let e : X * X * (w * w) * (w * w) * (524288 * (w * w)) ≡ X * X * (w * w * w) * (524288 * w * (w * w)) = omega arith in
      let i : t * S * P * (524288 * w * (w * w)) ≡ 524288 * t * w * (S * P * (w * w)) = omega arith in
      let j : 131071 * (α * α) * (S * P * (w * w)) ≡ S * w * (P * w) * (131071 * (α * α)) = omega arith in
      let k : q * h * f * (q * h * f) * (524288 * (w * w)) ≡ 131072 * (q * w * (q * w)) * (4 * (h * f * (h * f))) = omega arith in
      let l : 4 * (h * h) * (ρ * f * (ρ * f)) * (131071 * (α * α)) ≡ 131071 * (α * ρ * (α * ρ)) * (4 * (h * f * (h * f))) = omega arith in
      let chain : Near 47 (q * h * f * (q * h * f) * (524288 * (w * w))) (4 * (h * h) * (ρ * f * (ρ * f)) * (131071 * (α * α))) =
      near_trans (near_trans (near_eq refl e a) (near_eq refl i b)) (near_trans (near_eq refl j (near_le c)) d) in
      near_margin (near_cancel (4 * (h * f * (h * f))) (mul-pos (omega arith) (mul-pos (mul-pos H F) (mul-pos H F))) (near_eq k l chain))
