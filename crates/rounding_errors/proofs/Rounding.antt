-- The rounding errors of f32 operations on numbers above zero, each said of whole numbers: a float is n units of 2 ^
-- -149, from 2 ^ i to 2 ^ j of them (`Units`), and the result of an operation is `Near` the exact one, both ways
-- (`Rounded`). Where the range of the result is one of normal numbers is a test that computes. A finite result of any
-- sign and size is off by a unit more (`Whole`), a sum of whole units is not (`Summed`). Assumes nothing.
use mathlib.Core.Path.{◌≡◌, refl, sym, ap, subst}
use Prim.Native.Nat.{ℕ, ◌+◌, ◌-◌, ◌*◌, ◌/◌, ◌%◌, ◌^◌, ◌≤◌, ◌<◌, compare, Ordering}
use native.Mathlib.Nat.{le_trans, le_of_eq, le-add_right, lt_of_lt_of_le, zero-lt-suc, one-mul, mul-one, mul_assoc, mul-le-mul_right, mul-lt-mul_of_pos_right}
use native.Mathlib.Nat.{le_of_mul-le-mul_right, mul-pos, div-add-mod', mod-lt, le-div_iff_mul-le, div-lt_iff_lt-mul}
use native.Mathlib.Decide.{dec_lt}
use native.Mathlib.Omega.{arith}
use mathlib.Core.Bool.{Bool, true, false, not}
use lib.Dec.{T, is_le, compare_is_eq, leb→le, nleb→lt, eqb→eq}
use lib.Pow.{pow-add, pow_pos, pow_mono, pow-lt}
use lib.Ieee.{Float, nan, inf, fin, binary32, size, nearest, round, neg}
use lib.Ieee.Digits.{size_reaches, size-le}
use lib.Ieee.Exact.{HasValue, round_exact}
use lib.Ieee.Nearest.{closest}
use lib.Ieee.Order.{kept, drop, round_mono}
use lib.Ieee.Scale.{finite, grid, round_val, round_under}
use lib.Ieee.Positive.{positive, positive-finite, positive_of_value, values_of_le, between}
use Rattle.numbers.proofs.RootPattern.{size_gt}
use Rattle.numbers.proofs.RoundedOrder.{round_neg}
use Rattle.rounding_errors.proofs.Near.{Near, near_le, near_eq, near_trans, near_more, near_cancel}

-- ---- the nearest whole number

-- q and r are the quotient and the remainder by u
off : (q r u : ℕ) (o : Ordering) → r < u → (T (is_le o) → r * 2 ≤ u) → (T (not (is_le o)) → u < r * 2) → (T (compare_is_eq o) → r * 2 ≡ u)
    → (nearest q o * u * 2 ≤ (q * u + r) * 2 + u) × ((q * u + r) * 2 ≤ nearest q o * u * 2 + u)
off q r u Ordering.lt l h k e = let a = h tt in (omega arith, omega arith)
off q r u Ordering.eq l h k e =
    let a = e tt in
    let b : q % 2 * u ≤ 1 * u = mul-le-mul_right u (omega arith) in
    (omega arith, omega arith)
off q r u Ordering.gt l h k e = let a = k tt in (omega arith, omega arith)

-- off by half of u at most
closest_off : (n u : ℕ) → 0 < u → (closest n u * u * 2 ≤ n * 2 + u) × (n * 2 ≤ closest n u * u * 2 + u)
closest_off n u U =
    let r = n % u in
    let o = off (n / u) r u (compare (r * 2) u) (mod-lt n U) (leb→le (r * 2) u) (nleb→lt (r * 2) u) (eqb→eq (r * 2) u) in
    let d = div-add-mod' n u in
    (subst (λ (x : ℕ). closest n u * u * 2 ≤ x * 2 + u) d o.0, subst (λ (x : ℕ). x * 2 ≤ closest n u * u * 2 + u) d o.1)

closest_near : (n u : ℕ) → 0 < u → 8388608 * u ≤ n → Near 1 (closest n u * u) n × Near 1 n (closest n u * u)
closest_near n u U h =
    let o = closest_off n u U in
    (record { near = upper (closest n u * u) n u o.0 h }, record { near = lower (closest n u * u) n u o.1 h })
  where
    upper : (c n u : ℕ) → c * 2 ≤ n * 2 + u → 8388608 * u ≤ n → c * 16777215 ≤ n * 16777216
    upper c n u a h = omega arith

    lower : (c n u : ℕ) → n * 2 ≤ c * 2 + u → 8388608 * u ≤ n → n * 16777215 ≤ c * 16777216
    lower c n u b h = omega arith

-- a fraction in units of w
module _ (w a c : ℕ) (W : 0 < w) (C : 0 < c) (h : 8388608 * c ≤ a) where
  dropped : 8388608 * (c * w * 2 ^ drop 24 (a * w) (c * w)) ≤ a * w
  dropped =
      let z = size (a * w / (c * w)) in
      let D : 0 < c * w = mul-pos C W in
      let g : 23 < z = size_gt 23 (a * w / (c * w)) ((le-div_iff_mul-le D).1 (le_trans (le_of_eq (sym (mul_assoc 8388608 c w))) (mul-le-mul_right w h))) in
      let r : 2 ^ (23 + (z - 24)) * (c * w) ≤ a * w = (le-div_iff_mul-le D).0 (size_reaches (a * w / (c * w)) (23 + (z - 24)) (omega arith)) in
      le_trans (le_of_eq (mul_assoc' (c * w) (2 ^ (z - 24)))) (subst (λ (x : ℕ). x * (c * w) ≤ a * w) (pow-add 2 23 (z - 24)) r)
    where
      mul_assoc' : (d p : ℕ) → 8388608 * (d * p) ≡ 8388608 * p * d
      mul_assoc' d p = omega arith

  grid_near : Near 1 (kept 24 (a * w) (c * w) * 2 ^ drop 24 (a * w) (c * w) * c) a × Near 1 a (kept 24 (a * w) (c * w) * 2 ^ drop 24 (a * w) (c * w) * c)
  grid_near =
      let p = 2 ^ drop 24 (a * w) (c * w) in
      let q = kept 24 (a * w) (c * w) in
      let t = closest_near (a * w) (c * w * p) (mul-pos (mul-pos C W) (pow_pos (drop 24 (a * w) (c * w)))) dropped in
      let e : q * (c * w * p) ≡ q * p * c * w = moved q c w p in
      (near_cancel w W (subst (λ (x : ℕ). Near 1 x (a * w)) e t.0), near_cancel w W (subst (λ (x : ℕ). Near 1 (a * w) x) e t.1))
    where
      moved : (q c w p : ℕ) → q * (c * w * p) ≡ q * p * c * w
      moved q c w p = omega arith

-- ---- a rounded fraction

pub record Units (x : Float) (n i j : ℕ) : Type 0 where
  pub value : HasValue x false n (2 ^ 149)
  pub low : 2 ^ i ≤ n
  pub high : n ≤ 2 ^ j

pub units_pos : {x : Float} {n i j : ℕ} → Units x n i j → 0 < n
units_pos {x} {n} {i} u = lt_of_lt_of_le (pow_pos i) u.low

pub units_positive : {x : Float} {n i j : ℕ} → Units x n i j → T (positive x)
units_positive {x} {n} u = positive_of_value x n (2 ^ 149) u.value (units_pos u)

-- x times p is q, but for a rounding error
pub record Rounded (x : Float) (p q i j : ℕ) : Type 0 where
  pub n : ℕ
  pub is : Units x n i j
  pub below : Near 1 (n * p) q
  pub above : Near 1 q (n * p)

power : (i : ℕ) → i ≤ 276 → HasValue (round binary32 false (2 ^ i) (2 ^ 149)) false (2 ^ i) (2 ^ 149)
power i h =
    let e = sym (one-mul (2 ^ i)) in
    round_exact binary32 false (2 ^ i) (2 ^ 149) 1 i (pow_pos 149) (omega arith) (subst (λ (x : ℕ). x < 2 ^ 277) e (pow-lt {i = i} {j = 277} (omega arith)))
    (ap (λ (x : ℕ). x * 2 ^ 149) e)

power_positive : (i : ℕ) → i ≤ 276 → T (positive (round binary32 false (2 ^ i) (2 ^ 149)))
power_positive i h = positive_of_value (round binary32 false (2 ^ i) (2 ^ 149)) (2 ^ i) (2 ^ 149) (power i h) (pow_pos i)

pub round_units : (a c i j : ℕ) → 0 < c → 23 ≤ i → i ≤ 276 → j ≤ 276 → 2 ^ i * c ≤ a → a ≤ 2 ^ j * c → Rounded (round binary32 false a (c * 2 ^ 149)) c a i j
round_units a c i j C I J K lo hi =
    let w : ℕ = 2 ^ 149 in
    let W : 0 < w = pow_pos 149 in
    let D : 0 < c * w = mul-pos C W in
    let z = round binary32 false a (c * w) in
    let l = round_mono binary32 (2 ^ i) w a (c * w) W D (le_trans (le_of_eq (sym (mul_assoc (2 ^ i) c w))) (mul-le-mul_right w lo)) in
    let r = round_mono binary32 a (c * w) (2 ^ j) w D W (le_trans (mul-le-mul_right w hi) (le_of_eq (mul_assoc (2 ^ j) c w))) in
    let p = between (round binary32 false (2 ^ i) w) z (round binary32 false (2 ^ j) w) (power_positive i J) (power_positive j K) l r in
    let v = round_val binary32 a (c * w) (round_under binary32 a (c * w) (positive-finite z p)) in
    let g = grid_near w a c W C (le_trans (mul-le-mul_right c (pow_mono I)) lo) in
    record {
      n = grid binary32 a (c * w);
      is =
          record {
            value = v;
            low = le_of_mul-le-mul_right
                (values_of_le (round binary32 false (2 ^ i) w) z (2 ^ i) w (grid binary32 a (c * w)) w (power_positive i J) p (power i J) v l) W;
            high = le_of_mul-le-mul_right
                (values_of_le z (round binary32 false (2 ^ j) w) (grid binary32 a (c * w)) w (2 ^ j) w p (power_positive j K) v (power j K) r) W;
          };
      below = g.0;
      above = g.1;
    }

-- ---- any fraction, zero and subnormal ones too

-- x has the sign s, and is a / c units but for a rounding error and a unit
pub record Whole (x : Float) (s : Bool) (a c : ℕ) : Type 0 where
  pub n : ℕ
  pub value : HasValue x s n (2 ^ 149)
  pub below : Near 1 (n * c) (a + c)
  pub above : Near 1 a (n * c + c)

-- x has the sign s, and is a units but for a rounding error
pub record Summed (x : Float) (s : Bool) (a : ℕ) : Type 0 where
  pub n : ℕ
  pub value : HasValue x s n (2 ^ 149)
  pub below : Near 1 n a
  pub above : Near 1 a n

-- below 2 ^ 23 units no digit is dropped
module _ (w a c : ℕ) (W : 0 < w) (C : 0 < c) (h : a < 8388608 * c) where
  none_dropped : drop 24 (a * w) (c * w) ≡ 0
  none_dropped =
      let D : 0 < c * w = mul-pos C W in
      let l : a * w < 2 ^ 23 * (c * w) = lt_of_lt_of_le (mul-lt-mul_of_pos_right h W) (le_of_eq (mul_assoc 8388608 c w)) in
      let z = size-le (a * w / (c * w)) 23 ((div-lt_iff_lt-mul D).1 l) in
      omega arith

  small_off : (d : ℕ) → d ≡ 0 → (closest (a * w) (c * w * 2 ^ d) * 2 ^ d * c * 2 ≤ a * 2 + c) × (a * 2 ≤ closest (a * w) (c * w * 2 ^ d) * 2 ^ d * c * 2 + c)
  small_off d e = subst
      (λ (d : ℕ). (closest (a * w) (c * w * 2 ^ d) * 2 ^ d * c * 2 ≤ a * 2 + c) × (a * 2 ≤ closest (a * w) (c * w * 2 ^ d) * 2 ^ d * c * 2 + c)) (sym e)
      (let o = closest_off (a * w) (c * w * 1) (mul-pos (mul-pos C W) (zero-lt-suc 0)) in go (closest (a * w) (c * w * 1)) o.0 o.1)
    where
      go : (q : ℕ) → q * (c * w * 1) * 2 ≤ a * w * 2 + c * w * 1 → a * w * 2 ≤ q * (c * w * 1) * 2 + c * w * 1 → (q * 1 * c * 2 ≤ a * 2 + c)
          × (a * 2 ≤ q * 1 * c * 2 + c)
      go q i j =
          let k : q * 1 * c * 2 * w ≤ (a * 2 + c) * w = omega arith in
          let l : a * 2 * w ≤ (q * 1 * c * 2 + c) * w = omega arith in
          (le_of_mul-le-mul_right k W, le_of_mul-le-mul_right l W)

  pub grid_off : (kept 24 (a * w) (c * w) * 2 ^ drop 24 (a * w) (c * w) * c * 2 ≤ a * 2 + c)
      × (a * 2 ≤ kept 24 (a * w) (c * w) * 2 ^ drop 24 (a * w) (c * w) * c * 2 + c)
  grid_off = small_off (drop 24 (a * w) (c * w)) none_dropped

grid_whole : (w a c : ℕ) → 0 < w → 0 < c
    → Near 1 (kept 24 (a * w) (c * w) * 2 ^ drop 24 (a * w) (c * w) * c) (a + c) × Near 1 a (kept 24 (a * w) (c * w) * 2 ^ drop 24 (a * w) (c * w) * c + c)
grid_whole w a c W C = go (dec_lt a (8388608 * c))
  where
    go : Dec (a < 8388608 * c) → Near 1 (kept 24 (a * w) (c * w) * 2 ^ drop 24 (a * w) (c * w) * c) (a + c)
        × Near 1 a (kept 24 (a * w) (c * w) * 2 ^ drop 24 (a * w) (c * w) * c + c)
    go (yes h) = let o = grid_off w a c W C h in (near_more 1 (near_le (omega (arith, o.0))), near_more 1 (near_le (omega (arith, o.1))))
    go (no h) = let g = grid_near w a c W C (omega arith) in (near_trans g.0 (near_le (le-add_right a c)), near_trans g.1 (near_le (le-add_right _ c)))

-- whole numbers of units below 2 ^ 23 are exact
grid_sum : (w a : ℕ) → 0 < w → Near 1 (kept 24 (a * w) (1 * w) * 2 ^ drop 24 (a * w) (1 * w)) a
    × Near 1 a (kept 24 (a * w) (1 * w) * 2 ^ drop 24 (a * w) (1 * w))
grid_sum w a W = go (dec_lt a (8388608 * 1))
  where
    go : Dec (a < 8388608 * 1) → Near 1 (kept 24 (a * w) (1 * w) * 2 ^ drop 24 (a * w) (1 * w)) a
        × Near 1 a (kept 24 (a * w) (1 * w) * 2 ^ drop 24 (a * w) (1 * w))
    go (yes h) =
        let o = grid_off w a 1 W (zero-lt-suc 0) h in (near_more 1 (near_le (omega (arith, o.0, o.1))), near_more 1 (near_le (omega (arith, o.0, o.1))))
    go (no h) = let g = grid_near w a 1 W (zero-lt-suc 0) (omega arith) in (near_eq (mul-one _) refl g.0, near_eq refl (mul-one _) g.1)

neg_value : (x : Float) (a c : ℕ) → HasValue x false a c → HasValue (neg x) true a c
unfolding neg
neg_value nan a c h = h
neg_value (inf s) a c h = h
neg_value (fin s m e) a c h = (ap not h.0, h.1)

neg_finite : (x : Float) → T (finite (neg x)) → T (finite x)
unfolding neg
neg_finite nan h = h
neg_finite (inf s) h = h
neg_finite (fin s m e) h = h

unsigned_value : (a c : ℕ) → T (finite (round binary32 false a c)) → HasValue (round binary32 false a c) false (grid binary32 a c) (2 ^ 149)
unsigned_value a c h = round_val binary32 a c (round_under binary32 a c h)

round_value : (s : Bool) (a c : ℕ) → T (finite (round binary32 s a c)) → HasValue (round binary32 s a c) s (grid binary32 a c) (2 ^ 149)
round_value false a c h = unsigned_value a c h
round_value true a c h =
    let e = round_neg binary32 false a c in
    let f = neg_finite (round binary32 false a c) (subst (λ (x : Float). T (finite x)) e h) in
    subst (λ (x : Float). HasValue x true (grid binary32 a c) (2 ^ 149)) (sym e)
    (neg_value (round binary32 false a c) (grid binary32 a c) (2 ^ 149) (unsigned_value a c f))

pub round_whole : (s : Bool) (a c : ℕ) → 0 < c → T (finite (round binary32 s a (c * 2 ^ 149))) → Whole (round binary32 s a (c * 2 ^ 149)) s a c
round_whole s a c C h =
    let g = grid_whole (2 ^ 149) a c (pow_pos 149) C in
    record { n = grid binary32 a (c * 2 ^ 149); value = round_value s a (c * 2 ^ 149) h; below = g.0; above = g.1 }

pub round_sum : (s : Bool) (a : ℕ) → T (finite (round binary32 s a (1 * 2 ^ 149))) → Summed (round binary32 s a (1 * 2 ^ 149)) s a
round_sum s a h =
    let g = grid_sum (2 ^ 149) a (pow_pos 149) in
    record { n = grid binary32 a (1 * 2 ^ 149); value = round_value s a (1 * 2 ^ 149) h; below = g.0; above = g.1 }
