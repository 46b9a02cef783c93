-- How far a component of the computed cross product is off, by squares: how much less it may be than the exact one
-- (`component_off`), and how much more (`component_over`). Whole numbers only. Assumes nothing.
use mathlib.Core.Path.{◌≡◌, sym, ap, subst}
use Prim.Native.Nat.{ℕ, ◌+◌, ◌-◌, ◌*◌, ◌^◌, ◌≤◌}
use native.Mathlib.Nat.{mul-le-mul, mul-le-mul_left}
use native.Mathlib.Decide.{dec_le}
use native.Mathlib.Omega.{arith}
use native.Mathlib.Bridge.{IsLe, le_by_compare}
use mathlib.Core.Bool.{Bool, true, false}
use Rattle.rounding_errors.proofs.Near.{Near, near_within}
use Rattle.cosines.proofs.Exact.{apart, gap_square}

-- ---- the parts of a product are off by three errors and a unit

module _ (m k w : ℕ) where
  product_above : Near 3 m (k + w) → m * 4194303 ≤ (k + w) * 4194304
  unfolding IsLe
  product_above h = near_within 3 4194303 4194304 (le_by_compare (4194303 * 16777216 ^ 3) (4194304 * 16777215 ^ 3) tt) h

  product_below : Near 3 k (m + w) → k * 4194303 ≤ (m + w) * 4194304
  unfolding IsLe
  product_below h = near_within 3 4194303 4194304 (le_by_compare (4194303 * 16777216 ^ 3) (4194304 * 16777215 ^ 3) tt) h

-- with signs that are alike
module _ (m n k l w : ℕ) (h : m * 4194303 ≤ (k + w) * 4194304) (i : l * 4194303 ≤ (n + w) * 4194304) where
  twice : l ≤ 2 * (n + w)
  twice = omega arith

  like_off : 4194304 * m + 4194304 * l ≤ 4194304 * k + 4194304 * n + 12582912 * w + 2 * (m + n)
  like_off = let t = twice in omega arith

  like_gap : (d g : ℕ) → m ≡ n + d → k ≤ l + g → 4194304 * d ≤ 4194304 * g + 12582912 * w + 2 * (m + n)
  like_gap d g e c =
      let o = like_off in
      let f = ap (λ (z : ℕ). 4194304 * z) e in
      let t : 4194304 * k ≤ 4194304 * (l + g) = mul-le-mul_left 4194304 c in
      omega arith

parts_off : (u : Bool) (m n k l w : ℕ) → m * 4194303 ≤ (k + w) * 4194304 → n * 4194303 ≤ (l + w) * 4194304 → k * 4194303 ≤ (m + w) * 4194304
    → l * 4194303 ≤ (n + w) * 4194304
    → 4194304 * apart u m n ≤ 4194304 * apart u k l + 12582912 * w + 2 * (m + n)
parts_off true m n k l w h i j o = omega arith
parts_off false m n k l w h i j o = go (dec_le n m)
  where
    first : k ≤ l + (k - l + (l - k))
    first = omega arith

    second : l ≤ k + (k - l + (l - k))
    second = omega arith

    turned : (a b c : ℕ) → a ≤ b + c + 2 * (n + m) → a ≤ b + c + 2 * (m + n)
    turned a b c h = omega arith

    go : Dec (n ≤ m) → 4194304 * (m - n + (n - m)) ≤ 4194304 * (k - l + (l - k)) + 12582912 * w + 2 * (m + n)
    go (yes c) =
        let d = m - n in
        let e : m ≡ n + d = omega arith in
        let g : m - n + (n - m) ≡ d = omega arith in
        subst (λ (z : ℕ). 4194304 * z ≤ 4194304 * (k - l + (l - k)) + 12582912 * w + 2 * (m + n)) (sym g) (like_gap m n k l w h o d (k - l + (l - k)) e first)
    go (no c) =
        let d = n - m in
        let e : n ≡ m + d = omega arith in
        let g : m - n + (n - m) ≡ d = omega arith in
        subst (λ (z : ℕ). 4194304 * z ≤ 4194304 * (k - l + (l - k)) + 12582912 * w + 2 * (m + n)) (sym g)
        (turned (4194304 * d) (4194304 * (k - l + (l - k))) (12582912 * w) (like_gap n m l k w i j d (k - l + (l - k)) e second))

difference_off : (x y z w s : ℕ) → y * 4194303 ≤ z * 4194304 → 4194304 * x ≤ 4194304 * y + 12582912 * w + 2 * s → 4194304 * x ≤ 4194306 * z
    + (12582912 * w + 2 * s)
difference_off x y z w s h k = omega arith

-- ---- squares

pub twice_product : (m n : ℕ) → 2 * (m * n) ≤ m * m + n * n
twice_product m n = let g = gap_square m n in omega arith

square_sum : (x f g : ℕ) → x ≤ f + g → 64 * (x * x) ≤ 65 * (f * f) + 4160 * (g * g)
square_sum x f g h =
    let i : x * x ≤ (f + g) * (f + g) = mul-le-mul h h in
    let j = twice_product f (64 * g) in
    omega arith

error_square : (w m n : ℕ) → (12582912 * w + 2 * (m + n)) * (12582912 * w + 2 * (m + n)) ≤ 316659348799488 * (w * w) + 16 * (m * m + n * n)
error_square w m n =
    let i = twice_product (12582912 * w) (2 * (m + n)) in
    let j = twice_product m n in
    omega arith

-- x is the exact component, of the products m and n; z the computed one; 2 ^ 44 times all
pub component_off : (u : Bool) (m n k l w z : ℕ) → Near 3 m (k + w) → Near 3 n (l + w) → Near 3 k (m + w) → Near 3 l (n + w) → Near 1 (apart u k l) z
    → 64 * (17592186044416 * (apart u m n * apart u m n)) ≤ 65 * (17592202821636 * (z * z)) + 4160 * (316659348799488 * (w * w) + 16 * (m * m + n * n))
unfolding IsLe
component_off u m n k l w z a b c d e =
    let x = apart u m n in
    let h = difference_off x (apart u k l) z w (m + n) (near_within 1 4194303 4194304 (le_by_compare (4194303 * 16777216 ^ 1) (4194304 * 16777215 ^ 1) tt) e)
    (parts_off u m n k l w (product_above m k w a) (product_above n l w b) (product_below m k w c) (product_below n l w d)) in
    joined x z (12582912 * w + 2 * (m + n)) (square_sum (4194304 * x) (4194306 * z) (12582912 * w + 2 * (m + n)) h) (error_square w m n)
  where
    joined : (x z g : ℕ) → 64 * (4194304 * x * (4194304 * x)) ≤ 65 * (4194306 * z * (4194306 * z)) + 4160 * (g * g) → g * g ≤ 316659348799488 * (w * w)
        + 16 * (m * m + n * n)
        → 64 * (17592186044416 * (x * x)) ≤ 65 * (17592202821636 * (z * z)) + 4160 * (316659348799488 * (w * w) + 16 * (m * m + n * n))
    joined x z g h k = omega arith

-- ---- how much more

-- with signs that are alike
module _ (m n k l w : ℕ) (h : k * 4194303 ≤ (m + w) * 4194304) (i : n * 4194303 ≤ (l + w) * 4194304) where
  like_over : (d g : ℕ) → k ≡ l + d → m ≤ n + g → 4194303 * d ≤ 4194303 * g + (8388608 * w + (m + n))
  like_over d g e c = omega arith

parts_over : (u : Bool) (m n k l w : ℕ) → m * 4194303 ≤ (k + w) * 4194304 → n * 4194303 ≤ (l + w) * 4194304 → k * 4194303 ≤ (m + w) * 4194304
    → l * 4194303 ≤ (n + w) * 4194304
    → 4194303 * apart u k l ≤ 4194303 * apart u m n + (8388608 * w + (m + n))
parts_over true m n k l w h i j o = omega arith
parts_over false m n k l w h i j o = go (dec_le l k)
  where
    first : m ≤ n + (m - n + (n - m))
    first = omega arith

    second : n ≤ m + (m - n + (n - m))
    second = omega arith

    turned : (a b c : ℕ) → a ≤ b + (c + (n + m)) → a ≤ b + (c + (m + n))
    turned a b c h = omega arith

    go : Dec (l ≤ k) → 4194303 * (k - l + (l - k)) ≤ 4194303 * (m - n + (n - m)) + (8388608 * w + (m + n))
    go (yes c) =
        let d = k - l in
        let e : k ≡ l + d = omega arith in
        let g : k - l + (l - k) ≡ d = omega arith in
        subst (λ (z : ℕ). 4194303 * z ≤ 4194303 * (m - n + (n - m)) + (8388608 * w + (m + n))) (sym g) (like_over m n k l w j i d (m - n + (n - m)) e first)
    go (no c) =
        let d = l - k in
        let e : l ≡ k + d = omega arith in
        let g : k - l + (l - k) ≡ d = omega arith in
        subst (λ (z : ℕ). 4194303 * z ≤ 4194303 * (m - n + (n - m)) + (8388608 * w + (m + n))) (sym g)
        (turned (4194303 * d) (4194303 * (m - n + (n - m))) (8388608 * w) (like_over n m l k w o h d (m - n + (n - m)) e second))

-- e is any number: the larger it is, the less the square is off by a part of itself, and the more by the square of g
square_over : (e x f g : ℕ) → x ≤ f + g → e * (x * x) ≤ (e + 1) * (f * f) + e * (e + 1) * (g * g)
square_over e x f g h =
    let i : e * (x * x) ≤ e * ((f + g) * (f + g)) = mul-le-mul_left e (mul-le-mul h h) in
    let j = twice_product f (e * g) in
    omega arith

error_over : (w m n : ℕ) → 4 * ((8388608 * w + (m + n)) * (8388608 * w + (m + n))) ≤ 2533274790395904 * (w * w) + 9 * (m * m + n * n)
error_over w m n =
    let i = twice_product (m + n) (67108864 * w) in
    let j = twice_product m n in
    omega arith

-- the component before its own rounding, by the products k and l, against the exact one; 4194303 ^ 2 times all
pub component_over : (u : Bool) (m n k l w e : ℕ) → Near 3 m (k + w) → Near 3 n (l + w) → Near 3 k (m + w) → Near 3 l (n + w)
    → 4 * (17592177655809 * (e * (apart u k l * apart u k l))) ≤ 4 * (17592177655809 * ((e + 1) * (apart u m n * apart u m n)))
    + e * (e + 1) * (2533274790395904 * (w * w) + 9 * (m * m + n * n))
component_over u m n k l w e a b c d =
    let h = parts_over u m n k l w (product_above m k w a) (product_above n l w b) (product_below m k w c) (product_below n l w d) in
    let g = 8388608 * w + (m + n) in
    joined (apart u k l) (apart u m n) (g * g) (2533274790395904 * (w * w) + 9 * (m * m + n * n)) (e * (e + 1))
    (square_over e (4194303 * apart u k l) (4194303 * apart u m n) g h) (error_over w m n)
  where
    joined : (x y g c v : ℕ) → e * (4194303 * x * (4194303 * x)) ≤ (e + 1) * (4194303 * y * (4194303 * y)) + v * g → 4 * g ≤ c
        → 4 * (17592177655809 * (e * (x * x))) ≤ 4 * (17592177655809 * ((e + 1) * (y * y))) + v * c
    joined x y g c v h k = let i : v * (4 * g) ≤ v * c = mul-le-mul_left v k in omega arith
