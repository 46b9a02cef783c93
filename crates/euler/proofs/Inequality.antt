-- Euler's inequality over whole numbers, with the errors of the cross product. A, B and C are the squares of a
-- triangle's edges, X that of the cross product, x, y and z the lengths, cut to whole numbers. Four times X is at most
-- the sum of the lengths times their product (`euler_exact`), and if Y is X but for errors, so is Y, but for a part of
-- 20 / 2 ^ 20 (`euler_near`). Assumes nothing.
use mathlib.Core.Path.{◌≡◌, refl, subst}
use Prim.Native.Nat.{ℕ, zero, suc, ◌+◌, ◌-◌, ◌*◌, ◌≤◌}
use native.Mathlib.Nat.{le_trans, mul-le-mul, mul-le-mul_left, mul-le-mul_right, le_of_mul-le-mul_right}
use native.Mathlib.Omega.{arith}
use native.Mathlib.Decide.{dec_le}
use Rattle.cosines.proofs.Component.{twice_product}

-- ---- roots

-- x is the root of A, cut
pub record Floor (A x : ℕ) : Type 0 where
  pub low : x * x ≤ A
  pub high : A ≤ x * x + 2 * x

pub floor_of : (n : ℕ) → (x : ℕ) × Floor n x
floor_of zero = (0, record { low = omega arith; high = omega arith })
floor_of (suc n) = let r = floor_of n in step r.0 r.1 (dec_le ((r.0 + 1) * (r.0 + 1)) (suc n))
  where
    step : (x : ℕ) → Floor n x → Dec ((x + 1) * (x + 1) ≤ suc n) → (y : ℕ) × Floor (suc n) y
    step x f (yes h) = let k = f.high in (x + 1, record { low = h; high = omega arith })
    step x f (no h) = let k = f.low in (x, record { low = omega arith; high = omega arith })

floor_order : (A B x y : ℕ) → Floor A x → Floor B y → A ≤ B → x ≤ y
floor_order A B x y f g h = go (dec_le x y)
  where
    go : Dec (x ≤ y) → x ≤ y
    go (yes k) = k
    go (no k) =
        let l : (y + 1) * (y + 1) ≤ x * x = mul-le-mul (omega arith) (omega arith) in
        let i = f.low in
        let j = g.high in
        absurd (omega arith)

-- ---- lengths that are exact

-- Schur's inequality, of x, x + d and x + d + e
schur : (x d e : ℕ) → x * x * (x + d) + x * x * (x + d + e) + (x + d) * (x + d) * x + (x + d) * (x + d) * (x + d + e) + (x + d + e) * (x + d + e) * x
    + (x + d + e) * (x + d + e) * (x + d)
    ≤ x * x * x + (x + d) * (x + d) * (x + d) + (x + d + e) * (x + d + e) * (x + d + e) + 3 * (x * (x + d) * (x + d + e))
schur x d e = omega arith

in_order_lem : (x y z : ℕ) → x ≤ y → y ≤ z → x * x * y + x * x * z + y * y * x + y * y * z + z * z * x + z * z * y ≤ x * x * x + y * y * y + z * z * z
    + 3 * (x * y * z)
in_order_lem x y z h k =
    let e : x + (y - x) ≡ y = omega arith in
    let f : x + (y - x) + (z - y) ≡ z = omega arith in
    subst (λ (z : ℕ). x * x * y + x * x * z + y * y * x + y * y * z + z * z * x + z * z * y ≤ x * x * x + y * y * y + z * z * z + 3 * (x * y * z)) f
    (subst (λ (v : ℕ). x * x * v + x * x * (x + (y - x) + (z - y)) + v * v * x + v * v * (x + (y - x) + (z - y))
    + (x + (y - x) + (z - y)) * (x + (y - x) + (z - y)) * x + (x + (y - x) + (z - y)) * (x + (y - x) + (z - y)) * v
    ≤ x * x * x + v * v * v + (x + (y - x) + (z - y)) * (x + (y - x) + (z - y)) * (x + (y - x) + (z - y)) + 3 * (x * v * (x + (y - x) + (z - y)))) e
    (schur x (y - x) (z - y)))

-- the sum of the lengths times their product
abbrev pub spread : ℕ → ℕ → ℕ → ℕ
spread x y z = (x + y + z) * (x * y * z)

exact_lengths : (x y z : ℕ) → x ≤ y → y ≤ z → 2 * (x * x * (y * y) + y * y * (z * z) + z * z * (x * x)) ≤ x * x * (x * x) + y * y * (y * y) + z * z * (z * z)
    + spread x y z
exact_lengths x y z h k = let i = mul-le-mul_left (x + y + z) (in_order_lem x y z h k) in omega arith

-- ---- lengths that are cut

-- of squares in their order
module _ (A B C x y z : ℕ) (fa : Floor A x) (fb : Floor B y) (fc : Floor C z) (h : x ≤ y) (k : y ≤ z) (some : 1 ≤ x) where
  pair : (A B x y : ℕ) → A ≤ x * x + 2 * x → B ≤ y * y + 2 * y → x ≤ z → y ≤ z → A * B ≤ x * x * (y * y) + 8 * (z * z * z)
  pair A B x y a b i j =
      let p : A * B ≤ (x * x + 2 * x) * (y * y + 2 * y) = mul-le-mul a b in
      let q : x * y * x ≤ z * z * z = mul-le-mul (mul-le-mul i j) i in
      let r : x * y * y ≤ z * z * z = mul-le-mul (mul-le-mul i j) j in
      let s : x * y * 1 ≤ z * z * z = mul-le-mul (mul-le-mul i j) (omega arith) in
      omega arith

  pub euler_exact : (X : ℕ) → 4 * X + (A * A + B * B + C * C) ≡ 2 * (A * B + B * C + C * A) → 4 * X ≤ spread x y z + 48 * (z * z * z)
  euler_exact X e =
      let a = pair A B x y fa.high fb.high (omega arith) k in
      let b = pair B C y z fb.high fc.high k (omega arith) in
      let c = pair C A z x fc.high fa.high (omega arith) (omega arith) in
      let l : x * x * (x * x) ≤ A * A = mul-le-mul fa.low fa.low in
      let m : y * y * (y * y) ≤ B * B = mul-le-mul fb.low fb.low in
      let n : z * z * (z * z) ≤ C * C = mul-le-mul fc.low fc.low in
      joined X (A * A) (B * B) (C * C) (A * B) (B * C) (C * A) (x * x * (x * x)) (y * y * (y * y)) (z * z * (z * z)) (x * x * (y * y)) (y * y * (z * z))
      (z * z * (x * x)) (spread x y z) (z * z * z) e a b c l m n (exact_lengths x y z h k)
    where
      joined : (X aa bb cc ab bc ca xx yy zz xy yz zx s v : ℕ) → 4 * X + (aa + bb + cc) ≡ 2 * (ab + bc + ca) → ab ≤ xy + 8 * v → bc ≤ yz + 8 * v → ca ≤ zx
          + 8 * v → xx ≤ aa → yy ≤ bb → zz ≤ cc
          → 2 * (xy + yz + zx) ≤ xx + yy + zz + s → 4 * X ≤ s + 48 * v
      joined X aa bb cc ab bc ca xx yy zz xy yz zx s v e a b c l m n o = omega arith

-- ---- a cross product that is known but for errors

-- a quarter more than the square of a cut root
quarter_more : (A x : ℕ) → Floor A x → 8 ≤ x → 4 * A ≤ 5 * (x * x)
quarter_more A x f h =
    let i : x * 8 ≤ x * x = mul-le-mul_left x h in
    let j = f.high in
    omega arith

quarters : (A B x y : ℕ) → 4 * A ≤ 5 * (x * x) → 4 * B ≤ 5 * (y * y) → 16 * (A * B) ≤ 25 * (x * x * (y * y))
quarters A B x y h k = let i : 4 * A * (4 * B) ≤ 5 * (x * x) * (5 * (y * y)) = mul-le-mul h k in omega arith

-- of squares in their order; y is not very much longer than x
module _ (A B C x y z : ℕ) (fa : Floor A x) (fb : Floor B y) (fc : Floor C z) (h : x ≤ y) (k : y ≤ z) (long : 17179869184 ≤ x) (near : y ≤ 34359738368 * x)
    (X : ℕ) (heron : 4 * X + (A * A + B * B + C * C) ≡ 2 * (A * B + B * C + C * A)) where
  -- the longest length times the product
  part : z * (x * y * z) ≤ spread x y z
  part = mul-le-mul_right (x * y * z) (omega arith)

  second_third : 16 * (B * C) ≤ 25 * (y * y * (z * z))
  second_third = quarters B C y z (quarter_more B y fb (omega arith)) (quarter_more C z fc (omega arith))

  first_second : 16 * (A * B) ≤ 25 * (x * x * (y * y))
  first_second = quarters A B x y (quarter_more A x fa (omega arith)) (quarter_more B y fb (omega arith))

  -- lengths that are alike
  module _ (few : z ≤ 40 * x) where
    cube_small : 17179869184 * (z * z * z) ≤ 40 * spread x y z
    cube_small =
        let i : 17179869184 * (z * z * z) ≤ y * (z * z * (40 * x)) = mul-le-mul (omega arith) (mul-le-mul_left (z * z) few) in
        let j = part in
        omega arith

    exact_small : (s : ℕ) → spread x y z ≡ s → 8388608 * (4 * X) ≤ 8388609 * s
    exact_small s e =
        let i = euler_exact A B C x y z fa fb fc h k (omega arith) X heron in
        let j = cube_small in
        by (z * z * z) (subst (λ (s : ℕ). 4 * X ≤ s + 48 * (z * z * z)) e i) (subst (λ (s : ℕ). 17179869184 * (z * z * z) ≤ 40 * s) e j)
      where
        by : (v : ℕ) → 4 * X ≤ s + 48 * v → 17179869184 * v ≤ 40 * s → 8388608 * (4 * X) ≤ 8388609 * s
        by v i j = omega arith

    product_small : B * C ≤ 63 * spread x y z
    product_small =
        let i : y * z * (y * z) ≤ y * z * (40 * x * z) = mul-le-mul_left (y * z) (mul-le-mul_right z (omega arith)) in
        let j = part in
        let l = second_third in
        omega arith

  -- z is much longer than x
  module _ (many : 40 * x ≤ z) where
    exact_product : X ≤ A * B
    exact_product = let i = twice_product C (A + B) in omega arith

    cross_small : 8 * (4 * X) ≤ 2 * spread x y z
    cross_small =
        let i : x * y * (40 * x * y) ≤ x * y * (z * z) = mul-le-mul_left (x * y) (mul-le-mul many k) in
        let j = part in
        let l = first_second in
        let m = exact_product in
        omega arith

    error_small : 16 * (B * C) ≤ 858993459200 * spread x y z
    error_small =
        let i : y * z * (y * z) ≤ y * z * (34359738368 * x * z) = mul-le-mul_left (y * z) (mul-le-mul_right z near) in
        let j = part in
        let l = second_third in
        omega arith

-- Y is X but for errors: the larger e is, the less they are by a part of X, and the more by one of v, the product of
-- two squares
pub record Within (X Y v : ℕ) : Type 0 where
  pub within : (e : ℕ) → 4 * (17592177655809 * (e * Y)) ≤ 4 * (17592177655809 * ((e + 1) * X)) + e * (e + 1) * (12 * v)

-- s is the sum of the lengths times their product, u the product of the squares of the longer ones
alike_near : (X Y v u s : ℕ) → Within X Y v → v ≤ u → u ≤ 63 * s → 8388608 * (4 * X) ≤ 8388609 * s → 1048576 * (4 * Y) ≤ 1048596 * s
alike_near X Y v u s w h k l =
    scaled (joined (17592177655809 * Y) (17592177655809 * X) (17592177655809 * s) (12 * (65537 * v)) (first (w.within 65536)) (second h k) (third l))
  where
    first : 4 * (17592177655809 * (65536 * Y)) ≤ 4 * (17592177655809 * (65537 * X)) + 65536 * 65537 * (12 * v)
        → 65536 * (4 * (17592177655809 * Y)) ≤ 65537 * (4 * (17592177655809 * X)) + 65536 * (12 * (65537 * v))
    first i = omega arith

    second : v ≤ u → u ≤ 63 * s → 1048576 * (12 * (65537 * v)) ≤ 3 * (17592177655809 * s)
    second i j = omega arith

    third : 8388608 * (4 * X) ≤ 8388609 * s → 8388608 * (4 * (17592177655809 * X)) ≤ 8388609 * (17592177655809 * s)
    third i = omega arith

    joined : (a b c d : ℕ) → 65536 * (4 * a) ≤ 65537 * (4 * b) + 65536 * d → 1048576 * d ≤ 3 * c → 8388608 * (4 * b) ≤ 8388609 * c
        → 1048576 * (4 * a) ≤ 1048596 * c
    joined a b c d i j k = omega arith

    scaled : 1048576 * (4 * (17592177655809 * Y)) ≤ 1048596 * (17592177655809 * s) → 1048576 * (4 * Y) ≤ 1048596 * s
    scaled i = let j : 1048576 * (4 * Y) * 17592177655809 ≤ 1048596 * s * 17592177655809 = omega arith in le_of_mul-le-mul_right j (omega arith)

unlike_near : (X Y v u s : ℕ) → Within X Y v → v ≤ u → 16 * u ≤ 858993459200 * s → 8 * (4 * X) ≤ 2 * s → 1048576 * (4 * Y) ≤ 1048596 * s
unlike_near X Y v u s w h k l = let i = w.within 1 in omega arith

-- ---- in any order

-- a length not below n, and not very much above it
pub record Sized (n x : ℕ) : Type 0 where
  pub low : n ≤ x
  pub high : x ≤ 34359738368 * n

-- the squares and lengths of a triangle whose cross product is X
pub record Triangle (n A B C x y z X : ℕ) : Type 0 where
  pub first : Floor A x
  pub second : Floor B y
  pub third : Floor C z
  pub first_size : Sized n x
  pub second_size : Sized n y
  pub third_size : Sized n z
  pub heron : 4 * X + (A * A + B * B + C * C) ≡ 2 * (A * B + B * C + C * A)

turned : {n A B C x y z X : ℕ} → Triangle n A B C x y z X → Triangle n B C A y z x X
turned {n} {A} {B} {C} {x} {y} {z} {X} t =
    record {
      first = t.second;
      second = t.third;
      third = t.first;
      first_size = t.second_size;
      second_size = t.third_size;
      third_size = t.first_size;
      heron = let h = t.heron in omega arith;
    }

swapped : {n A B C x y z X : ℕ} → Triangle n A B C x y z X → Triangle n B A C y x z X
swapped {n} {A} {B} {C} {x} {y} {z} {X} t =
    record {
      first = t.second;
      second = t.first;
      third = t.third;
      first_size = t.second_size;
      second_size = t.first_size;
      third_size = t.third_size;
      heron = let h = t.heron in omega arith;
    }

sorted : {n A B C x y z X Y v : ℕ} → 17179869184 ≤ n → Triangle n A B C x y z X → A ≤ B → B ≤ C → v ≤ B * C → Within X Y v
    → 1048576 * (4 * Y) ≤ 1048596 * spread x y z
sorted {n} {A} {B} {C} {x} {y} {z} {X} {Y} {v} N t h k l w =
    let fa = t.first in
    let fb = t.second in
    let fc = t.third in
    let i = floor_order A B x y fa fb h in
    let j = floor_order B C y z fb fc k in
    let lo = t.first_size.low in
    let hi = t.second_size.high in
    go i j (le_trans N lo) (le_trans hi (mul-le-mul_left 34359738368 lo)) (dec_le z (40 * x))
  where
    go : x ≤ y → y ≤ z → 17179869184 ≤ x → y ≤ 34359738368 * x → Dec (z ≤ 40 * x) → 1048576 * (4 * Y) ≤ 1048596 * spread x y z
    go i j long near (yes c) =
        alike_near X Y v (B * C) (spread x y z) w l (product_small A B C x y z t.first t.second t.third i j long near X t.heron c)
        (exact_small A B C x y z t.first t.second t.third i j long near X t.heron c (spread x y z) refl)
    go i j long near (no c) =
        let m : 40 * x ≤ z = omega arith in
        unlike_near X Y v (B * C) (spread x y z) w l (error_small A B C x y z t.first t.second t.third i j long near X t.heron m)
        (cross_small A B C x y z t.first t.second t.third i j long near X t.heron m)

-- v is the product of the squares of two edges, whichever they are
module _ {n A B C x y z X Y : ℕ} (N : 17179869184 ≤ n) (t : Triangle n A B C x y z X) (w : Within X Y (A * C)) where
  pub euler_near : 1048576 * (4 * Y) ≤ 1048596 * spread x y z
  euler_near = go (dec_le A B) (dec_le B C) (dec_le A C)
    where
      s : ℕ
      s = spread x y z

      at : {r : ℕ} → r ≡ s → 1048576 * (4 * Y) ≤ 1048596 * r → 1048576 * (4 * Y) ≤ 1048596 * s
      at e h = subst (λ (r : ℕ). 1048576 * (4 * Y) ≤ 1048596 * r) e h

      xzy : spread x z y ≡ s
      xzy = omega arith

      yxz : spread y x z ≡ s
      yxz = omega arith

      yzx : spread y z x ≡ s
      yzx = omega arith

      zxy : spread z x y ≡ s
      zxy = omega arith

      zyx : spread z y x ≡ s
      zyx = omega arith

      go : Dec (A ≤ B) → Dec (B ≤ C) → Dec (A ≤ C) → 1048576 * (4 * Y) ≤ 1048596 * s
      go (yes h) (yes k) l = sorted N t h k (mul-le-mul_right C h) w
      go (yes h) (no k) (yes l) = let i : A * C ≤ B * C = mul-le-mul_right C h in at xzy
          (sorted N (swapped (turned (turned t))) l (omega arith) (omega arith) w)
      go (yes h) (no k) (no l) = let i : C * A ≤ B * A = mul-le-mul_right A (omega arith) in at zxy
          (sorted N (turned (turned t)) (omega arith) h (omega arith) w)
      go (no h) (yes k) (yes l) = at yxz (sorted N (swapped t) (omega arith) l (omega arith) w)
      go (no h) (yes k) (no l) = at yzx (sorted N (turned t) k (omega arith) (omega arith) w)
      go (no h) (no k) l = let i : C * A ≤ B * A = mul-le-mul_right A (omega arith) in at zyx
          (sorted N (swapped (turned t)) (omega arith) (omega arith) (omega arith) w)
