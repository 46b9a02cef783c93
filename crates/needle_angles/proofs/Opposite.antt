-- The two cosines of a needle, over whole numbers: a, b and c are the edges, w units to 1. Where c² + a² - b² is from y
-- on, c² - b² - a² is from y' on, rounding included (`opposite`); and a is much shorter by the squares (`edges_near`,
-- `edges_far`). Assumes nothing.
use mathlib.Core.Path.{◌≡◌, refl, sym, ap, subst}
use Prim.Native.Nat.{ℕ, ◌+◌, ◌-◌, ◌*◌, ◌^◌, ◌≤◌, ◌<◌}
use native.Mathlib.Nat.{mul-le-mul, mul-le-mul_left, mul-le-mul_right, le_of_mul-le-mul_right, mul-pos}
use native.Mathlib.Omega.{arith}
use native.Mathlib.Bridge.{IsLe, le_by_compare}
use native.Mathlib.Decide.{dec_le}
use mathlib.Core.Bool.{Bool}
use lib.Dec.{T, leb, leb→le}
use Rattle.rounding_errors.proofs.Near.{Near, near_le, near_eq, near_trans, near_times, near_add, near_cancel, near_within, square_back}

-- What the factors τ and ρ of y and y' have to satisfy, with edges K times as long: c is longer than b by a part s of
-- 4096 of a, and that makes up for the rounding errors of the sums and for what is left of a².
abbrev pub is_longer : ℕ → ℕ → ℕ → ℕ → Bool
is_longer K s w τ = leb ((4096 * 19 * 8193 * (K * w) + 4096 * 100000019 * w + 200000000 * (s * (K * w))) * 1000001) (4096 * 100000000 * 2 * 1000000 * (K * τ))

abbrev pub is_apart : ℕ → ℕ → ℕ → ℕ → ℕ → Bool
is_apart K s w τ ρ =
    leb ((4096 * 8193 * (K * w) + (16777216 * 4096 * w - 16777215 * (ρ * s)) + 4096 * 16777215 * (K * ρ)) * (1000001 * 1000001))
    (4096 * 16777215 * (1000000 * 1000000) * (K * τ))

-- three roundings
rounded : (b B y P q : ℕ) → b * 100000000 ≤ B * 100000006 → B + y ≤ P → P * 100000000 ≤ q * 100000012 → b * 100000000 + y * 100000000 ≤ q * 100000019
rounded b B y P q h i j = omega arith

-- a is at most a part of K of c, and at least one of 8193
module _ (K s w a b c : ℕ) (large : 0 < K) (part : s ≤ 4096) (W : 0 < w) (near : a * K ≤ c) (far : c ≤ a * 8193) where
  module _ (τ A C y : ℕ) (longer : T (is_longer K s w τ)) (C-most : Near 1 (C * w) (c * c)) (A-most : Near 1 (A * w) (a * a))
      (y-least : Near 3 (τ * (2 * c * a)) (y * w * w)) where
    -- c is longer than b
    linear : (B P : ℕ) → B + y ≤ P → Near 1 P (C + A) → Near 1 (b * b) (B * w) → 4096 * (b * b) + 2 * s * (c * a) ≤ 4096 * (c * c)
    unfolding IsLe
    linear B P h p u =
        let i = near_within {p = b * b} {q = B * w} 1 100000000 100000006 (le_by_compare (100000000 * 16777216 ^ 1) (100000006 * 16777215 ^ 1) tt) u in
        let t : Near 2 (P * w) (c * c + a * a) = near_trans (near_eq refl (spread C A) (near_times w p)) (near_add C-most A-most) in
        let j = near_within {p = P * w} {q = c * c + a * a} 2 100000000 100000012 (le_by_compare (100000000 * 16777216 ^ 2) (100000012 * 16777215 ^ 2) tt) t in
        let m = near_within {p = τ * (2 * c * a)} {q = y * w * w} 3 1000000 1000001
        (le_by_compare (1000000 * 16777216 ^ 3) (1000001 * 16777215 ^ 3) tt) y-least in
        let r = rounded (b * b) (B * w) (y * w) (P * w) (c * c + a * a) i (add_under_w B P h) j in
        let r' : (b * b * 100000000 + y * w * 100000000) * w ≤ (c * c + a * a) * 100000019 * w = mul-le-mul_right w r in
        let f : c * (c * w) ≤ a * 8193 * (c * w) = mul-le-mul_right (c * w) far in
        let n : a * K * (a * w) ≤ c * (a * w) = mul-le-mul_right (a * w) near in
        let g = mul-le-mul_right (c * a) (leb→le _ (4096 * 100000000 * 2 * 1000000 * (K * τ)) longer) in
        let v : (4096 * (b * b) + 2 * s * (c * a)) * (w * K) ≤ 4096 * (c * c) * (w * K) =
        gathered (whole (b * b * w * K) (y * w * w * K) (c * c * w * K) (a * a * w * K) (K * (w * (c * a))) (w * (c * a)) (s * (K * (w * (c * a))))
        (K * (τ * (c * a))) (first r') (second f) (third n) (fourth m) (fifth g)) in
        le_of_mul-le-mul_right v (mul-pos W large)
      where
        add_under_w : (B P : ℕ) → B + y ≤ P → B * w + y * w ≤ P * w
        add_under_w B P h = let i = mul-le-mul_right w h in omega arith

        spread : (C A : ℕ) → (C + A) * w ≡ C * w + A * w
        spread C A = omega arith

        first : (b * b * 100000000 + y * w * 100000000) * w ≤ (c * c + a * a) * 100000019 * w → b * b * w * K * 100000000
            + y * w * w * K * 100000000 ≤ (c * c * w * K + a * a * w * K) * 100000019
        first r = let i = mul-le-mul_right K r in omega arith

        second : c * (c * w) ≤ a * 8193 * (c * w) → c * c * w * K ≤ 8193 * (K * (w * (c * a)))
        second f = let i = mul-le-mul_right K f in omega arith

        third : a * K * (a * w) ≤ c * (a * w) → a * a * w * K ≤ w * (c * a)
        third n = omega arith

        fourth : τ * (2 * c * a) * 1000000 ≤ y * w * w * 1000001 → K * (τ * (c * a)) * (2 * 1000000) ≤ y * w * w * K * 1000001
        fourth m = let i = mul-le-mul_right K m in omega arith

        fifth : (4096 * 19 * 8193 * (K * w) + 4096 * 100000019 * w + 200000000 * (s * (K * w))) * 1000001 * (c * a) ≤ 4096 * 100000000 * 2 * 1000000 * (K * τ) *
            (c * a)
            → (4096 * 19 * 8193 * (K * (w * (c * a))) + 4096 * 100000019 * (w * (c * a))
            + 200000000 * (s * (K * (w * (c * a))))) * 1000001 ≤ 4096 * 100000000 * 2 * 1000000 * (K * (τ * (c * a)))
        fifth g = omega arith

        gathered : 4096 * (b * b * w * K) + 2 * (s * (K * (w * (c * a)))) ≤ 4096 * (c * c * w * K)
            → (4096 * (b * b) + 2 * s * (c * a)) * (w * K) ≤ 4096 * (c * c) * (w * K)
        gathered h = omega arith

        whole : (x y c a k p q t : ℕ) → x * 100000000 + y * 100000000 ≤ (c + a) * 100000019 → c ≤ 8193 * k → a ≤ p → t * (2 * 1000000) ≤ y * 1000001
            → (4096 * 19 * 8193 * k + 4096 * 100000019 * p + 200000000 * q) * 1000001 ≤ 4096 * 100000000 * 2 * 1000000 * t
            → 4096 * x + 2 * q ≤ 4096 * c
        whole x y c a k p q t i j l m g = omega arith

    shorter : (B P : ℕ) → B + y ≤ P → Near 1 P (C + A) → Near 1 (b * b) (B * w) → b * 4096 + s * a ≤ c * 4096
    shorter B P h p u = go (c * 4096 - s * a) fits (linear B P h p u)
      where
        short : a ≤ c
        short = let i : a * 1 ≤ a * K = mul-le-mul_left a large in omega arith

        fits : (c * 4096 - s * a) + s * a ≡ c * 4096
        fits = let i : s * a ≤ 4096 * c = mul-le-mul part short in omega arith

        go : (d : ℕ) → d + s * a ≡ c * 4096 → 4096 * (b * b) + 2 * s * (c * a) ≤ 4096 * (c * c) → b * 4096 + s * a ≤ c * 4096
        go d e l =
            let i = ap (λ (x : ℕ). x * d) e in
            let j = ap (λ (x : ℕ). x * (s * a)) e in
            let k = ap (λ (x : ℕ). x * (c * 4096)) e in
            let m = square_back (b * 4096) d (omega arith) in
            omega arith

    -- the rounding errors of the sums, against y - y'
    module _ (ρ y' : ℕ) (apart : T (is_apart K s w τ ρ)) (y'-most : Near 3 (y' * w * w) (ρ * (2 * b * a))) where
      margin : b * 4096 + s * a ≤ c * 4096 → 2 * C + 2 * 16777216 * A + 16777215 * y' ≤ 16777215 * y
      unfolding IsLe
      margin l =
          let i = near_within {p = C * w} {q = c * c} 1 1000000 1000001 (le_by_compare (1000000 * 16777216 ^ 1) (1000001 * 16777215 ^ 1) tt) C-most in
          let j = near_within {p = A * w} {q = a * a} 1 1000000 1000001 (le_by_compare (1000000 * 16777216 ^ 1) (1000001 * 16777215 ^ 1) tt) A-most in
          let k = near_within {p = y' * w * w} {q = ρ * (2 * b * a)} 3 1000000 1000001
          (le_by_compare (1000000 * 16777216 ^ 3) (1000001 * 16777215 ^ 3) tt) y'-most in
          let m = near_within {p = τ * (2 * c * a)} {q = y * w * w} 3 1000000 1000001
          (le_by_compare (1000000 * 16777216 ^ 3) (1000001 * 16777215 ^ 3) tt) y-least in
          let e = 16777216 * 4096 * w - 16777215 * (ρ * s) in
          let f : c * (c * w) ≤ a * 8193 * (c * w) = mul-le-mul_right (c * w) far in
          let n : a * K * (a * e) ≤ c * (a * e) = mul-le-mul_right (a * e) near in
          let d : 16777216 * 4096 * w * (a * a * K) ≤ (e + 16777215 * (ρ * s)) * (a * a * K) = mul-le-mul_right (a * a * K) (omega arith) in
          let o : (b * 4096 + s * a) * (ρ * a) ≤ c * 4096 * (ρ * a) = mul-le-mul_right (ρ * a) l in
          let i' : C * w * 1000000 * w ≤ c * c * 1000001 * w = mul-le-mul_right w i in
          let j' : A * w * 1000000 * w ≤ a * a * 1000001 * w = mul-le-mul_right w j in
          let g = mul-le-mul_right (c * a) (leb→le _ (4096 * 16777215 * (1000000 * 1000000) * (K * τ)) apart) in
          le_of_mul-le-mul_right
          (gathered (whole (C * w * w * K) (A * w * w * K) (y' * w * w * K) (y * w * w * K) (K * (w * (c * a))) (a * a * w * K) (ρ * s * (a * a) * K)
          (e * (c * a)) (K * (ρ * (c * a))) (K * (τ * (c * a)))
          (first i' f) (second j') (third k o) (fourth m) (sixth e d n) (fifth e g)))
          (mul-pos (mul-pos W W) large)
        where
          first : C * w * 1000000 * w ≤ c * c * 1000001 * w → c * (c * w) ≤ a * 8193 * (c * w) → C * w * w * K * 1000000 ≤ K * (w * (c * a)) * (8193 * 1000001)
          first i f = let j = mul-le-mul_right K i in let k = mul-le-mul_right K f in omega arith

          second : A * w * 1000000 * w ≤ a * a * 1000001 * w → A * w * w * K * 1000000 ≤ a * a * w * K * 1000001
          second j = let i = mul-le-mul_right K j in omega arith

          third : y' * w * w * 1000000 ≤ ρ * (2 * b * a) * 1000001 → (b * 4096 + s * a) * (ρ * a) ≤ c * 4096 * (ρ * a) → y' * w * w * K * (1000000 * 4096)
              + ρ * s * (a * a) * K * (2 * 1000001) ≤ K * (ρ * (c * a)) * (2 * 4096 * 1000001)
          third k o = let i = mul-le-mul_right K k in let j = mul-le-mul_right K o in omega arith

          fourth : τ * (2 * c * a) * 1000000 ≤ y * w * w * 1000001 → K * (τ * (c * a)) * (2 * 1000000) ≤ y * w * w * K * 1000001
          fourth m = let i = mul-le-mul_right K m in omega arith

          sixth : (e : ℕ) → 16777216 * 4096 * w * (a * a * K) ≤ (e + 16777215 * (ρ * s)) * (a * a * K) → a * K * (a * e) ≤ c * (a * e)
              → 16777216 * 4096 * (a * a * w * K) ≤ e * (c * a) + 16777215 * (ρ * s * (a * a) * K)
          sixth e d n = omega arith

          fifth : (e : ℕ) → (4096 * 8193 * (K * w) + e + 4096 * 16777215 * (K * ρ)) * (1000001 * 1000001) * (c * a) ≤ 4096 * 16777215 * (1000000 * 1000000) *
              (K * τ) * (c * a)
              → (4096 * 8193 * (K * (w * (c * a))) + e * (c * a) + 4096 * 16777215 * (K * (ρ * (c * a)))) * (1000001 * 1000001) ≤ 4096 * 16777215 *
              (1000000 * 1000000) * (K * (τ * (c * a)))
          fifth e g = omega arith

          whole : (x z r s k p u e q t : ℕ) → x * 1000000 ≤ k * (8193 * 1000001) → z * 1000000 ≤ p * 1000001 → r * (1000000 * 4096)
              + u * (2 * 1000001) ≤ q * (2 * 4096 * 1000001) → t * (2 * 1000000) ≤ s * 1000001
              → 16777216 * 4096 * p ≤ e + 16777215 * u
              → (4096 * 8193 * k + e + 4096 * 16777215 * q) * (1000001 * 1000001) ≤ 4096 * 16777215 * (1000000 * 1000000) * t
              → 2 * x + 2 * 16777216 * z + 16777215 * r ≤ 16777215 * s
          whole x z r s k p u e q t i j l m n g = omega arith

          gathered : 2 * (C * w * w * K) + 2 * 16777216 * (A * w * w * K) + 16777215 * (y' * w * w * K) ≤ 16777215 * (y * w * w * K)
              → (2 * C + 2 * 16777216 * A + 16777215 * y') * (w * w * K) ≤ 16777215 * y * (w * w * K)
          gathered h = omega arith

      pub opposite : (B P Q : ℕ) → B + y ≤ P → Near 1 P (C + A) → Near 1 Q (B + A) → Near 1 (b * b) (B * w) → Q + y' ≤ C
      unfolding IsLe
      opposite B P Q h p q u =
          let m = margin (shorter B P h p u) in
          let i = near_within {p = P} {q = C + A} 1 16777215 16777216 (le_by_compare (16777215 * 16777216 ^ 1) (16777216 * 16777215 ^ 1) tt) p in
          let j = near_within {p = Q} {q = B + A} 1 16777215 16777216 (le_by_compare (16777215 * 16777216 ^ 1) (16777216 * 16777215 ^ 1) tt) q in
          last m i j
        where
          last : 2 * C + 2 * 16777216 * A + 16777215 * y' ≤ 16777215 * y → P * 16777215 ≤ (C + A) * 16777216 → Q * 16777215 ≤ (B + A) * 16777216 → Q + y' ≤ C
          last m i j = omega arith

-- ---- a product of a factor and two edges, and its quotient

module _ (w τ c a e D y : ℕ) (W : 0 < w) where
  pub product_least : Near 1 (2 * w * c) (e * w) → Near 1 (e * a) (D * w) → Near 1 (τ * D) (y * w) → Near 3 (τ * (2 * c * a)) (y * w * w)
  product_least h i j =
      let k : Near 1 (2 * c) e = near_cancel w W (near_eq first refl h) in
      let l : Near 2 (2 * c * a) (D * w) = near_trans (near_times a k) i in
      near_eq second refl (near_trans (near_eq refl third (near_times τ l)) (near_times w j))
    where
      first : 2 * w * c ≡ 2 * c * w
      first = omega arith

      second : 2 * c * a * τ ≡ τ * (2 * c * a)
      second = omega arith

      third : D * w * τ ≡ τ * D * w
      third = omega arith

  pub product_most : Near 1 (e * w) (2 * w * c) → Near 1 (D * w) (e * a) → Near 1 (y * w) (τ * D) → Near 3 (y * w * w) (τ * (2 * c * a))
  product_most h i j =
      let k : Near 1 e (2 * c) = near_cancel w W (near_eq refl first h) in
      let l : Near 2 (D * w) (2 * c * a) = near_trans i (near_times a k) in
      near_trans (near_eq refl third (near_times w j)) (near_eq refl second (near_times τ l))
    where
      first : 2 * w * c ≡ 2 * c * w
      first = omega arith

      second : 2 * c * a * τ ≡ τ * (2 * c * a)
      second = omega arith

      third : τ * D * w ≡ D * w * τ
      third = omega arith

module _ (w τ D y g : ℕ) (positive : 0 < D) where
  pub quotient_most : Near 1 (y * w) (τ * D) → Near 1 (g * D) (y * w) → g * 1000000 ≤ τ * 1000001
  unfolding IsLe
  quotient_most h i = near_within {p = g} {q = τ} 2 1000000 1000001 (le_by_compare (1000000 * 16777216 ^ 2) (1000001 * 16777215 ^ 2) tt)
      (near_cancel D positive (near_trans i h))

  pub quotient_least : Near 1 (τ * D) (y * w) → Near 1 (y * w) (g * D) → τ * 1000000 ≤ g * 1000001
  unfolding IsLe
  quotient_least h i = near_within {p = τ} {q = g} 2 1000000 1000001 (le_by_compare (1000000 * 16777216 ^ 2) (1000001 * 16777215 ^ 2) tt)
      (near_cancel D positive (near_trans h i))

-- ---- the angle opposite to a

-- a factor f of 8192 leaves room for a part of k² between the two squares
abbrev pub has_room : ℕ → ℕ → Bool
has_room k f = leb ((8192 + 2 * (f * (k * k))) * (1000001 * 1000001)) (2 * 8192 * (k * k) * (1000000 * 1000000))

linear_parts : (X Z S G P F : ℕ) → X * 1000000 ≤ G * 1000001 → Z * 8192 * 1000000 ≤ 2 * F * 1000001 → 2 * P * 1000000 ≤ S * 1000001
    → (8192 * G + 2 * F) * (1000001 * 1000001) ≤ 2 * 8192 * P * (1000000 * 1000000) → X + Z ≤ S
linear_parts X Z S G P F h i j k = omega arith

module _ (N f q g x z t s : ℕ) (some : 0 < N) (room : (8192 + 2 * (f * N)) * (1000001 * 1000001) ≤ 2 * 8192 * N * (1000000 * 1000000)) where
  parts_under : 2 * g ≤ q → q * 1000000 ≤ s * 1000001 → x * 1000000 ≤ t * 1000001 → z * 8192 * 1000000 ≤ f * (2 * g) * 1000001 → t * N ≤ g → x + z ≤ s
  parts_under h i j k l = le_of_mul-le-mul_right
      (gathered (linear_parts (x * N) (z * N) (s * N) g (N * g) (f * N * g) (first j l) (second k) (third h i) (fourth (mul-le-mul_right g room)))) some
    where
      first : x * 1000000 ≤ t * 1000001 → t * N ≤ g → x * N * 1000000 ≤ g * 1000001
      first j l = let m = mul-le-mul_right N j in omega arith

      second : z * 8192 * 1000000 ≤ f * (2 * g) * 1000001 → z * N * 8192 * 1000000 ≤ 2 * (f * N * g) * 1000001
      second k = let m = mul-le-mul_right N k in omega arith

      third : 2 * g ≤ q → q * 1000000 ≤ s * 1000001 → 2 * (N * g) * 1000000 ≤ s * N * 1000001
      third h i = let m = mul-le-mul_right N h in let n = mul-le-mul_right N i in omega arith

      fourth : (8192 + 2 * (f * N)) * (1000001 * 1000001) * g ≤ 2 * 8192 * N * (1000000 * 1000000) * g
          → (8192 * g + 2 * (f * N * g)) * (1000001 * 1000001) ≤ 2 * 8192 * (N * g) * (1000000 * 1000000)
      fourth m = omega arith

      gathered : x * N + z * N ≤ s * N → (x + z) * N ≤ s * N
      gathered m = omega arith

-- its cosine is at least a factor f of 8192, where v units are 2 ^ -13
module _ (w v a b c k f : ℕ) (U : 0 < v) (W : w ≡ 8192 * v) (some : 0 < k) (room : T (has_room k f)) (near : a * k ≤ b) (near' : a * k ≤ c) where
  squares : 2 * b * c ≤ b * b + c * c
  squares = go (dec_le b c)
    where
      from : (x d : ℕ) → 2 * x * (x + d) ≤ x * x + (x + d) * (x + d)
      from x d = omega arith

      go : Dec (b ≤ c) → 2 * b * c ≤ b * b + c * c
      go (yes l) = let e : c ≡ b + (c - b) = omega arith in subst (λ (x : ℕ). 2 * b * x ≤ b * b + x * x) (sym e) (from b (c - b))
      go (no l) =
          let e : b ≡ c + (b - c) = omega arith in
          let h = subst (λ (x : ℕ). 2 * c * x ≤ c * c + x * x) (sym e) (from c (b - c)) in
          omega arith

  pub under_sum : (A B C S y : ℕ) → Near 1 (A * w) (a * a) → Near 1 (b * b) (B * w) → Near 1 (c * c) (C * w) → Near 1 (B + C) S
      → Near 3 (y * w * w) (f * v * (2 * b * c)) → A + y ≤ S
  unfolding IsLe
  under_sum A B C S y h i j m' l =
      let s : Near 1 (b * b + c * c) (B * w + C * w) = near_add i j in
      let t : Near 2 (b * b + c * c) (S * w) = near_trans s (near_eq (spread B C) refl (near_times w m')) in
      let m = near_within {p = b * b + c * c} {q = S * w} 2 1000000 1000001 (le_by_compare (1000000 * 16777216 ^ 2) (1000001 * 16777215 ^ 2) tt) t in
      let n = near_within {p = A * w} {q = a * a} 1 1000000 1000001 (le_by_compare (1000000 * 16777216 ^ 1) (1000001 * 16777215 ^ 1) tt) h in
      let o : Near 3 (y * w * 8192) (f * (2 * b * c)) = near_cancel v U (near_eq scaled moved l) in
      let p = near_within {p = y * w * 8192} {q = f * (2 * b * c)} 3 1000000 1000001 (le_by_compare (1000000 * 16777216 ^ 3) (1000001 * 16777215 ^ 3) tt) o in
      let q : a * k * (a * k) ≤ b * c = mul-le-mul near near' in
      let e = parts_under (k * k) f (b * b + c * c) (b * c) (A * w) (y * w) (a * a) (S * w) (mul-pos some some)
      (leb→le _ (2 * 8192 * (k * k) * (1000000 * 1000000)) room) (subst (λ (x : ℕ). x ≤ b * b + c * c) doubled squares) m n
      (subst (λ (x : ℕ). y * w * 8192 * 1000000 ≤ f * x * 1000001) doubled p) (subst (λ (x : ℕ). x ≤ b * c) square q) in
      le_of_mul-le-mul_right (gathered e) (omega arith)
    where
      spread : (B C : ℕ) → (B + C) * w ≡ B * w + C * w
      spread B C = omega arith

      scaled : y * w * w ≡ y * w * 8192 * v
      scaled = let e = ap (λ (x : ℕ). y * w * x) W in omega arith

      moved : f * v * (2 * b * c) ≡ f * (2 * b * c) * v
      moved = omega arith

      doubled : 2 * b * c ≡ 2 * (b * c)
      doubled = omega arith

      square : a * k * (a * k) ≡ a * a * (k * k)
      square = omega arith

      gathered : A * w + y * w ≤ S * w → (A + y) * w ≤ S * w
      gathered h = omega arith

-- ---- edges by their squares

by_parts : (x y : ℕ) → x * 1000000 ≤ y * 67108864 * 1000001 → x ≤ y * 67125249
by_parts x y h = omega arith

-- i and j are roots of X and Y
module _ (w i j X Y Z : ℕ) (W : 0 < w) where
  pub edges_near : (K k : ℕ) → K * K * 1000001 ≤ k * 1000000 → Near 3 (i * i) (X * w) → Near 1 (X * (k * w)) (Z * w) → Z ≤ Y → Near 3 (Y * w) (j * j)
      → i * K ≤ j
  unfolding IsLe
  edges_near K k f r p l q =
      let s : Near 7 (i * i * k) (j * j) = near_trans (near_trans (near_trans (near_eq refl moved (near_times k r)) p) (near_le (mul-le-mul_right w l))) q in
      let t = near_within {p = i * i * k} {q = j * j} 7 1000000 1000001 (le_by_compare (1000000 * 16777216 ^ 7) (1000001 * 16777215 ^ 7) tt) s in
      let u : i * i * (K * K * 1000001) ≤ i * i * (k * 1000000) = mul-le-mul_left (i * i) f in
      let g : i * K * (i * K) * 1000001 ≤ j * j * 1000001 = whole t u in
      square_back (i * K) j (le_of_mul-le-mul_right g (omega arith))
    where
      moved : X * w * k ≡ X * (k * w)
      moved = omega arith

      whole : i * i * k * 1000000 ≤ j * j * 1000001 → i * i * (K * K * 1000001) ≤ i * i * (k * 1000000) → i * K * (i * K) * 1000001 ≤ j * j * 1000001
      whole t u = omega arith

  pub edges_far : Near 3 (j * j) (Y * w) → Y ≤ Z → Near 1 (Z * w) (X * (67108864 * w)) → Near 3 (X * w) (i * i) → j ≤ i * 8193
  unfolding IsLe
  edges_far q l p r =
      let s : Near 7 (j * j) (i * i * 67108864) = near_trans (near_trans (near_trans q (near_le (mul-le-mul_right w l))) (near_eq refl moved p))
      (near_times 67108864 r) in
      let t = near_within {p = j * j} {q = i * i * 67108864} 7 1000000 1000001 (le_by_compare (1000000 * 16777216 ^ 7) (1000001 * 16777215 ^ 7) tt) s in
      square_back j (i * 8193) (subst (λ (x : ℕ). j * j ≤ x) regrouped (by_parts (j * j) (i * i) t))
    where
      moved : X * (67108864 * w) ≡ X * w * 67108864
      moved = omega arith

      regrouped : i * i * 67125249 ≡ i * 8193 * (i * 8193)
      regrouped = omega arith
