-- From a small cross product to a cosine near 1, over whole numbers. A, C and B are the exact squares of the edges p q,
-- p t and q t, X that of the cross product, E is A + C - B, which is twice the dot product, z the product of the
-- computed lengths of p q and p t, and w is 2 ^ 149, the units of 1. Assumes nothing.
use mathlib.Core.Path.{◌≡◌, refl, sym, ap, ◌∙◌, subst}
use Prim.Native.Nat.{ℕ, ◌+◌, ◌*◌, ◌^◌, ◌≤◌, ◌<◌}
use native.Mathlib.Nat.{le_trans, le_of_eq, mul-pos, mul-le-mul, mul-le-mul_left, mul-le-mul_right, le_of_mul-le-mul_right, add-mul}
use native.Mathlib.Omega.{arith}
use native.Mathlib.Bridge.{IsLe, le_by_compare}
use Rattle.rounding_errors.proofs.Near.{Near, near_le, near_eq, near_self, near_trans, near_add, near_more, near_times, near_root, near_within}

-- ---- the cross product against the limit

-- t is the limit, n what the test compares with; S is the sum of the squares of the computed components, m its rounding
module _ (w A C X m S t n : ℕ) (W : 0 < w) where
  -- against the exact product
  sum_near : Near 3 S (m * w + 3 * w) → m ≤ n → Near 14 (n * (w * (w * w * w))) (t * (A * C)) → Near 17 (S * (w * w * w)) (t * (A * C) + 3 * (w * (w * w * w)))
  sum_near h k l =
      let i : Near 3 (S * (w * w * w)) ((m * w + 3 * w) * (w * w * w)) = near_times (w * w * w) h in
      let j : m * (w * (w * w * w)) ≤ n * (w * (w * w * w)) = mul-le-mul_right (w * (w * w * w)) k in
      let e : (m * w + 3 * w) * (w * w * w) ≤ n * (w * (w * w * w)) + 3 * (w * (w * w * w)) = grouped m n w (w * w * w) j in
      near_trans (near_trans i (near_le e)) (near_add l (near_self 14 (3 * (w * (w * w * w)))))
    where
      grouped : (m n w v : ℕ) → m * (w * v) ≤ n * (w * v) → (m * w + 3 * w) * v ≤ n * (w * v) + 3 * (w * v)
      grouped m n w v h = omega arith

  sum_within : (U Y F : ℕ) → U * 262144 ≤ (Y + 3 * F) * 262145 → 3 * F * 1099511627776 ≤ Y → U * 1000 ≤ Y * 1001
  sum_within U Y F h k = omega arith

  -- each of the three parts, in tenths
  first_part : (U Y : ℕ) → U * 1000 ≤ Y * 1001 → 650 * (17592202821636 * U) ≤ 651 * (17592186044416 * Y)
  first_part U Y h = omega arith

  second_part : (Y F v : ℕ) → 3 * F * 1099511627776 ≤ Y → v ≤ F → 41600 * (3 * (316659348799488 * v)) ≤ 17592186044416 * Y
  second_part Y F v h k = omega arith

  third_part : (Y c : ℕ) → c ≤ 1048576 * Y → 41600 * (16 * c) ≤ 17592186044416 * Y
  third_part Y c h = omega arith

  limit_within : (x U Y v c : ℕ) → 64 * (17592186044416 * x) ≤ 65 * (17592202821636 * U) + 4160 * (3 * (316659348799488 * v) + 16 * c)
      → 650 * (17592202821636 * U) ≤ 651 * (17592186044416 * Y)
      → 41600 * (3 * (316659348799488 * v)) ≤ 17592186044416 * Y → 41600 * (16 * c) ≤ 17592186044416 * Y → 32 * x ≤ 33 * Y
  limit_within x U Y v c h i j k = by (17592186044416 * x) (17592202821636 * U) (17592186044416 * Y) (3 * (316659348799488 * v)) (16 * c) refl refl h i j k
    where
      by : (p q y v c : ℕ) → p ≡ 17592186044416 * x → y ≡ 17592186044416 * Y → 64 * p ≤ 65 * q + 4160 * (v + c) → 650 * q ≤ 651 * y → 41600 * v ≤ y
          → 41600 * c ≤ y → 32 * x ≤ 33 * Y
      by p q y v c e f h i j k = let l : 640 * p ≤ 653 * y = omega arith in omega arith

  pub cross_small : 64 * (17592186044416 * X) ≤ 65 * (17592202821636 * (S * (w * w))) + 4160 * (3 * (316659348799488 * (w * w)) + 16 * (A * C))
      → Near 3 S (m * w + 3 * w) → m ≤ n → Near 14 (n * (w * (w * w * w))) (t * (A * C))
      → 3 * (w * (w * w * w)) * 1099511627776 ≤ t * (A * C) → w ≤ 1048576 * t → 32 * (X * w) ≤ 33 * (t * (A * C))
  unfolding IsLe
  cross_small h k l i b o =
      let a = near_within 17 262144 262145 (le_by_compare (262144 * 16777216 ^ 17) (262145 * 16777215 ^ 17) tt) (sum_near k l i) in
      let c : A * C * w ≤ A * C * (1048576 * t) = mul-le-mul_left (A * C) o in
      let d : w * w * w * 1 ≤ w * w * w * w = mul-le-mul_left (w * w * w) W in
      let Y = t * (A * C) in
      let F = w * (w * w * w) in
      limit_within (X * w) (S * (w * w * w)) Y (w * w * w) (A * C * w) (times h) (first_part (S * (w * w * w)) Y (sum_within (S * (w * w * w)) Y F a b))
      (second_part Y F (w * w * w) b (turned (w * w * w) w d)) (third_part Y (A * C * w) (moved (A * C) t c))
    where
      turned : (v w : ℕ) → v * 1 ≤ v * w → v ≤ w * v
      turned v w h = omega arith

      moved : {d : ℕ} (c t : ℕ) → d ≤ c * (1048576 * t) → d ≤ 1048576 * (t * c)
      moved c t h = omega arith

      times : 64 * (17592186044416 * X) ≤ 65 * (17592202821636 * (S * (w * w))) + 4160 * (3 * (316659348799488 * (w * w)) + 16 * (A * C))
          → 64 * (17592186044416 * (X * w)) ≤ 65 * (17592202821636 * (S * (w * w * w))) + 4160 * (3 * (316659348799488 * (w * w * w)) + 16 * (A * C * w))
      times h = let i = mul-le-mul_right w h in omega arith

-- ---- the dot product

-- j of 32 w is what the limit t leaves
pub dot_above : (w A C X E t j z : ℕ) → 4 * (A * C) ≡ E * E + 4 * X → 32 * (X * w) ≤ 33 * (t * (A * C)) → j + 33 * t ≡ 32 * w → Near 18 (z * z) (A * C)
    → Near 9 (2 * j * z) (E * (32 * w))
dot_above w A C X E t j z h k l i =
    let P = A * C in
    let a = ap (λ (v : ℕ). v * (32 * w)) h in
    let b = ap (λ (v : ℕ). 4 * P * v) l in
    let c : 4 * P * j ≤ E * E * (32 * w) = step P (E * E) a b k in
    let d : 4 * P * j * j ≤ E * E * (32 * w) * j = mul-le-mul_right j c in
    let g : E * E * (32 * w) * j ≤ E * E * (32 * w) * (32 * w) = mul-le-mul_left (E * E * (32 * w)) (omega arith) in
    near_root (near_eq {k = 18} (left j z) refl
    (near_trans (near_times (4 * (j * j)) i) (near_le (le_trans (le_of_eq (right P j)) (le_trans d (le_trans g (le_of_eq (squares E (32 * w)))))))))
  where
    step : (P Q : ℕ) → 4 * P * (32 * w) ≡ (Q + 4 * X) * (32 * w) → 4 * P * (j + 33 * t) ≡ 4 * P * (32 * w) → 32 * (X * w) ≤ 33 * (t * P)
        → 4 * P * j ≤ Q * (32 * w)
    step P Q a b k = omega arith

    left : (j z : ℕ) → z * z * (4 * (j * j)) ≡ 2 * j * z * (2 * j * z)
    left j z = omega arith

    right : (P j : ℕ) → P * (4 * (j * j)) ≡ 4 * P * j * j
    right P j = omega arith

    squares : (E h : ℕ) → E * E * h * h ≡ E * h * (E * h)
    squares E h = omega arith

-- ---- the edges against each other

-- r is a bound of the ratio of p q and p t
pub edge_below : (A C r z : ℕ) → Near 13 A (r * r * C) → Near 18 (A * C) (z * z) → Near 16 A (r * z)
edge_below A C r z h k =
    near_root (near_more 1 (near_eq {k = 31} refl (grouped r z) (near_trans (near_eq {k = 13} refl (moved r C A) (near_times A h)) (near_times (r * r) k))))
  where
    moved : (r C A : ℕ) → r * r * C * A ≡ A * C * (r * r)
    moved r C A = omega arith

    grouped : (r z : ℕ) → z * z * (r * r) ≡ r * z * (r * z)
    grouped r z = omega arith

pub edges_sum : (A B C v : ℕ) → Near 16 A v → Near 16 C v → Near 28 B v → A + B + C ≤ 4 * v
unfolding IsLe
edges_sum A B C v h k l =
    let a = near_within 28 3 4 (le_by_compare (3 * 16777216 ^ 28) (4 * 16777215 ^ 28) tt) (near_add (near_add (near_more 12 h) l) (near_more 12 k)) in
    omega arith

-- q t is hardly longer than p q, and this is not very much longer than p t
pub third_below : (A B C r : ℕ) → Near 12 B A → Near 13 A (r * r * C) → r ≤ 256 → B ≤ A + C
unfolding IsLe
third_below A B C r h k l =
    let a = near_within 12 1048576 1048577 (le_by_compare (1048576 * 16777216 ^ 12) (1048577 * 16777215 ^ 12) tt) h in
    let b = near_within 13 1 2 (le_by_compare (1 * 16777216 ^ 13) (2 * 16777215 ^ 13) tt) k in
    let c : r * r * C ≤ 256 * 256 * C = mul-le-mul_right C (mul-le-mul l l) in
    ended (r * r * C) a b c
  where
    ended : (v : ℕ) → B * 1048576 ≤ A * 1048577 → A * 1 ≤ v * 2 → v ≤ 256 * 256 * C → B ≤ A + C
    ended v a b c = omega arith

-- ---- the cosine

-- k is the bound, g is w / 2 ^ 19, s the computed sum of the squares of the lengths of p q and p t, b the computed
-- square of that of q t
module _ (w g k r j E A B C z s b : ℕ) (W : w ≡ 524288 * g) (G : 0 < g) (K : w ≤ 2 * k) (J : 32 * (k + (r + 1) * g) ≤ j) (H : j ≤ 32 * w) (R : r ≤ 256)
    (dot : Near 9 (2 * j * z) (E * (32 * w))) (whole : E + B ≡ A + C) (sum : Near 11 (A + C) (s * w)) (third : Near 10 (b * w) B)
    (edges : A + B + C ≤ 4 * (r * z)) where
  dot_large : 2097152 * ((k + (r + 1) * g) * z) ≤ 1048577 * (E * w)
  unfolding IsLe
  dot_large =
      let a = near_within 9 1048576 1048577 (le_by_compare (1048576 * 16777216 ^ 9) (1048577 * 16777215 ^ 9) tt) dot in
      let b = mul-le-mul_right z J in
      ended (k + (r + 1) * g) a b
    where
      ended : (v : ℕ) → 2 * j * z * 1048576 ≤ E * (32 * w) * 1048577 → 32 * v * z ≤ j * z → 2097152 * (v * z) ≤ 1048577 * (E * w)
      ended v a b = omega arith

  difference_large : 1048576 * E + 1048576 * (b * w) ≤ 1048576 * (s * w) + 4 * (r * z)
  unfolding IsLe
  difference_large =
      let a = near_within 11 1048575 1048576 (le_by_compare (1048575 * 16777216 ^ 11) (1048576 * 16777215 ^ 11) tt) sum in
      let c = near_within 10 1048576 1048577 (le_by_compare (1048576 * 16777216 ^ 10) (1048577 * 16777215 ^ 10) tt) third in
      let h = whole in
      let e = edges in
      omega arith

  -- half of z
  dot_half : z ≤ 2 * E
  dot_half =
      let a : w * z ≤ 2 * k * z = mul-le-mul_right z K in
      let p : 0 < w = subst (λ (v : ℕ). 0 < v) (sym W) (mul-pos {m = 524288} (omega arith) G) in
      le_of_mul-le-mul_right (ended a dot_large) p
    where
      ended : w * z ≤ 2 * k * z → 2097152 * ((k + (r + 1) * g) * z) ≤ 1048577 * (E * w) → z * w ≤ 2 * E * w
      ended a h = let c : k * z ≤ (k + (r + 1) * g) * z = mul-le-mul_right z (omega arith) in omega arith

  ratio_small : 4 * (r * z) ≤ 1024 * z
  ratio_small = let a : r * z ≤ 256 * z = mul-le-mul_right z R in omega arith

  pub difference_some : z + 4 * (b * w) ≤ 4 * (s * w)
  difference_some = let a = difference_large in let c = dot_half in let e = ratio_small in omega arith

  -- with room for four errors
  pub cosine_large : (d : ℕ) → s ≡ b + d → 1048577 * (2 * (k * z)) ≤ 1048576 * (d * w * w)
  cosine_large d h =
      let v = (k + (r + 1) * g) * z in
      let t : s * w ≡ b * w + d * w = ap (λ (x : ℕ). x * w) h ∙ add-mul b d w in
      let a : 1048576 * E ≤ 1048576 * (d * w) + 4 * (r * z) = first t in
      let c = mul-le-mul_right w a in
      let e : 4 * (r * z) * w ≡ 2097152 * (r * (z * g)) = second in
      let vz : v ≤ w * z = mul-le-mul_right z (omega arith) in
      let o : w * z ≡ 524288 * (z * g) = third' in
      let kz : k * z ≤ w * z = mul-le-mul_right z (omega arith) in
      let x : v ≡ k * z + r * (z * g) + z * g = omega arith in
      ended v (E * w) (d * w * w) (r * (z * g)) (z * g) (k * z) (w * z) (4 * (r * z) * w) dot_large (grouped c) e vz o kz x
    where
      first : s * w ≡ b * w + d * w → 1048576 * E ≤ 1048576 * (d * w) + 4 * (r * z)
      first t = let a = difference_large in omega arith

      second : 4 * (r * z) * w ≡ 2097152 * (r * (z * g))
      second = let e = ap (λ (x : ℕ). 4 * (r * z) * x) W in omega arith

      third' : w * z ≡ 524288 * (z * g)
      third' = let e = ap (λ (x : ℕ). x * z) W in omega arith

      grouped : 1048576 * E * w ≤ (1048576 * (d * w) + 4 * (r * z)) * w → 1048576 * (E * w) ≤ 1048576 * (d * w * w) + 4 * (r * z) * w
      grouped h = omega arith

      ended : (v e d r g k z q : ℕ) → 2097152 * v ≤ 1048577 * e → 1048576 * e ≤ 1048576 * d + q → q ≡ 2097152 * r → v ≤ z → z ≡ 524288 * g → k ≤ z → v ≡ k + r
          + g → 1048577 * (2 * k) ≤ 1048576 * d
      ended v e d r g k z q a b c f h i j = omega arith

-- d is rounded to n, and q is n over p
pub quotient_large : (w k z d n p q : ℕ) → 0 < w → 0 < p → 1048577 * (2 * (k * z)) ≤ 1048576 * (d * w * w) → Near 1 d n → Near 2 (p * w) (2 * z)
    → Near 1 (n * w) (q * p) → k ≤ q
unfolding IsLe
quotient_large w k z d n p q W P h i j l =
    let a : Near 2 (p * w * (1048577 * k)) (2 * z * (1048577 * k)) = near_times (1048577 * k) j in
    let b : 2 * z * (1048577 * k) ≤ d * (1048576 * w * w) = turned h in
    let c : Near 1 (n * (1048576 * w * w)) (q * p * (1048576 * w)) = near_eq {k = 1} moved refl (near_times (1048576 * w) l) in
    let e = near_within 4 1048576 1048577 (le_by_compare (1048576 * 16777216 ^ 4) (1048577 * 16777215 ^ 4) tt)
    (near_trans (near_trans (near_trans a (near_le b)) (near_times (1048576 * w * w) i)) c) in
    let f : k * (1048576 * (1048577 * (p * w))) ≤ q * (1048576 * (1048577 * (p * w))) = omega arith in
    le_of_mul-le-mul_right f (mul-pos {m = 1048576} (omega arith) (mul-pos {m = 1048577} (omega arith) (mul-pos P W)))
  where
    turned : 1048577 * (2 * (k * z)) ≤ 1048576 * (d * w * w) → 2 * z * (1048577 * k) ≤ d * (1048576 * w * w)
    turned h = omega arith

    moved : n * w * (1048576 * w) ≡ n * (1048576 * w * w)
    moved = omega arith
