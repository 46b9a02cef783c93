-- The f32 nearest to a fraction m / d: with the fraction scaled to 24 digits before the point, its nearest whole number
-- is the pattern's digits. There is only one nearest pattern, it is the one that the format's rounding gives, and of
-- the file's decimals it is no tie and no subnormal number. Assumes nothing.
use mathlib.Core.Path.{◌≡◌, refl, sym, ap, ap₂, ◌∙◌, subst}
use Prim.Native.Nat.{ℕ, zero, suc, ◌+◌, ◌-◌, ◌*◌, ◌/◌, ◌%◌, ◌^◌, ◌≤◌, ◌<◌, zero-le}
use native.Mathlib.Nat.{le_of_lt, le_antisymm, lt_irrefl, lt_of_le_of_lt, zero-mul, le_trans, le_of_eq, lt_of_lt_of_le, mul_assoc, mul_comm, mul_right_comm}
use native.Mathlib.Nat.{mul-pos, mul-sub, mul-le-mul_right, mul-lt-mul_of_pos_right, le-div_iff_mul-le, div-lt_iff_lt-mul, eq_of_mul-eq-mul_right, two-pow-succ}
use native.Mathlib.Nat.{div-add-mod'}
use native.Mathlib.Omega.{arith}
use native.Mathlib.Decide.{dec_lt, dec_le}
use native.Mathlib.Bridge.{IsLe, le_by_compare}
use mathlib.Core.Logic.{◌⊎◌, inl, inr, ⊎_elim, ◌≢◌}
use mathlib.Core.Bool.{not, false}
use lib.Arith.{lt_of_le-ne}
use lib.Dec.{T}
use lib.Pow.{pow-add, pow_pos}
use lib.Ieee.{Float, binary32, size, round, units, is_nan, of_bits, to_bits}
use lib.Ieee.Bits.{of_bits-fits, to_bits-of_bits}
use lib.Ieee.Digits.{size-le}
use lib.Ieee.Fits.{round_is, round-fits}
use lib.Ieee.Exact.{HasValue, round_exact}
use lib.Ieee.Nearest.{closest, closest_same}
use Rattle.numbers.proofs.OrderLaws.{value_unique}
use Rattle.numbers.proofs.RootPattern.{size_gt, units_value, units_written, value_no_nan}
use Rattle.numbers.proofs.RootGrid.{Grid, on_grid, coarse}
use Rattle.patterns.specs.Pattern.{units_of}
use Rattle.patterns.proofs.Pattern.{one_count, bits_value, units_next, units_mono}
use Rattle.decimals.specs.Nearest.{whole_gap, error, Nearest, Alone, NotSubnormal}
use Rattle.decimals.specs.Inner.Ready.{Tenths, Scaling}
use Rattle.decimals.proofs.Closest.{Close, closest_close, closest_is, nearer, tied}

-- ---- one pattern for a value
pub number_no_nan : (b : ℕ) → b < 0x7f800000 → T (not (is_nan (of_bits binary32 b)))
number_no_nan b h = value_no_nan (of_bits binary32 b) false (units_of b) (2 ^ 149) (bits_value b h)

pub one_pattern : (b c : ℕ) → b < 0x7f800000 → c < 0x7f800000 → units_of b ≡ units_of c → b ≡ c
one_pattern b c B C e =
    let v = bits_value b B in
    let w = bits_value c C in
    let f = value_unique binary32 (of_bits binary32 b) (of_bits binary32 c) false (units_of b) (2 ^ 149) (pow_pos 149) (of_bits-fits binary32 b)
    (of_bits-fits binary32 c) v (subst (λ (n : ℕ). HasValue (of_bits binary32 c) false n (2 ^ 149)) (sym e) w) in
    sym (to_bits-of_bits binary32 b (omega arith) (number_no_nan b B)) ∙ ap (to_bits binary32) f ∙ to_bits-of_bits binary32 c (omega arith) (number_no_nan c C)

-- ---- distances, scaled
sub_mul : (a b c : ℕ) → (a - b) * c ≡ a * c - b * c
sub_mul a b c = mul_comm (a - b) c ∙ mul-sub c a b ∙ ap₂ ◌-◌ (mul_comm c a) (mul_comm c b)

gap_mul : (a b p : ℕ) → whole_gap (a * p) (b * p) ≡ whole_gap a b * p
gap_mul a b p = let x = sub_mul a b p in let y = sub_mul b a p in omega arith

-- a number of less than 24 digits is farther off than the least one of 24 digits
far : (n d p y e : ℕ) → 0 < d → 8388608 * d ≤ n → y < 8388608 * p → e ≤ whole_gap (8388608 * d) n * p → e < whole_gap (y * d) (n * p)
far n d p y e D low l h = go (n - 8388608 * d) (omega arith) (omega arith)
  where
    go : (t : ℕ) → n ≡ 8388608 * d + t → whole_gap (8388608 * d) n ≡ t → e < whole_gap (y * d) (n * p)
    go t k g =
        let a : suc y * d ≤ 8388608 * p * d = mul-le-mul_right d l in
        let b : n * p ≡ (8388608 * d + t) * p = ap (λ (z : ℕ). z * p) k in
        let c : whole_gap (8388608 * d) n * p ≡ t * p = ap (λ (z : ℕ). z * p) g in
        omega arith

-- ---- no tie: n is a multiple of 128, and no power of ten up to 1,000,000, each of which divides that, has so many
-- twos
no_half : (a power d o : ℕ) → d * power ≡ 1000000 → (2 * o + 1) * d ≡ 256 * a → ⊥
no_half a power d o h f =
    let g : (2 * o + 1) * d * power ≡ 256 * a * power = ap (λ (x : ℕ). x * power) f in
    let i : (2 * o + 1) * (d * power) ≡ (2 * o + 1) * 1000000 = ap (λ (x : ℕ). (2 * o + 1) * x) h in
    parity (a * power) o (omega arith)
  where
    parity : (x o : ℕ) → 256 * x ≡ (2 * o + 1) * 1000000 → ⊥
    parity x o e = omega arith

half : (n a d q : ℕ) → n ≡ 128 * a → n * 2 ≡ q * d * 2 + d → (2 * q + 1) * d ≡ 256 * a
half n a d q f t = omega arith

no_half_below : (a power d n q : ℕ) → d * power ≡ 1000000 → n ≡ 128 * a → 8388608 ≤ q → q * d * 2 ≡ n * 2 + d → ⊥
no_half_below a power d n zero p f l t = absurd (omega arith)
no_half_below a power d n (suc q) p f l t = no_half a power d q p (omega arith)

multiple_of_128 : (m n h : ℕ) → h ≤ 142 → n * 2 ^ h ≡ m * 2 ^ 149 → n ≡ 128 * (m * 2 ^ (142 - h))
multiple_of_128 m n h l e =
    eq_of_mul-eq-mul_right (2 ^ h) (pow_pos h) n (128 * (m * 2 ^ (142 - h)))
    (e ∙ sym (mul_assoc m 128 (2 ^ 142)) ∙ ap (λ (z : ℕ). m * 128 * z) parts ∙ shuffle m (2 ^ (142 - h)) (2 ^ h))
  where
    parts : 2 ^ 142 ≡ 2 ^ (142 - h) * 2 ^ h
    parts = let s : 142 ≡ 142 - h + h = omega arith in ap (λ (k : ℕ). 2 ^ k) s ∙ pow-add 2 (142 - h) h

    shuffle : (m x p : ℕ) → m * 128 * (x * p) ≡ 128 * (m * x) * p
    shuffle m x p = omega arith

-- ---- m / d is n / d units of 2 ^ h, with 24 digits
module _ (m d n h : ℕ) (D : 0 < d) (is : n * 2 ^ h ≡ m * 2 ^ 149) (low : 8388608 * d ≤ n) (high : n < 16777216 * d) (short : h ≤ 142) where
  abbrev q : ℕ
  q = closest n d

  close : Close n d q
  close = closest_close n d D

  q_low : 8388608 ≤ q
  q_low = go q close.lower (dec_lt q 8388608)
    where
      go : (q : ℕ) → n * 2 ≤ q * d * 2 + d → Dec (q < 8388608) → 8388608 ≤ q
      go q a (yes l) = let b : q * d ≤ 8388607 * d = mul-le-mul_right d (omega arith) in absurd (omega arith)
      go q a (no l) = omega arith

  q_high : q ≤ 16777216
  q_high = go q close.upper (dec_lt 16777216 q)
    where
      go : (q : ℕ) → q * d * 2 ≤ n * 2 + d → Dec (16777216 < q) → q ≤ 16777216
      go q a (yes l) = let b : 16777217 * d ≤ q * d = mul-le-mul_right d l in absurd (omega arith)
      go q a (no l) = omega arith

  abbrev pub bits : ℕ
  bits = h * 8388608 + q

  bits_number : bits < 0x7f800000
  bits_number = let a = q_high in omega arith

  bits_is : of_bits binary32 bits ≡ units binary32 false q h
  bits_is = units_written q h q_low q_high (omega arith)

  bits_units : units_of bits ≡ q * 2 ^ h
  bits_units = one_count (of_bits binary32 bits) false false (units_of bits) (q * 2 ^ h) (2 ^ 149) (bits_value bits bits_number)
      (subst (λ (x : Float). HasValue x false (q * 2 ^ h) (2 ^ 149)) (sym bits_is) (units_value q h q_high (omega arith)))

  -- the format's own rounding
  dropped : size (m * 2 ^ 149 / d) - 24 ≡ h
  dropped = subst (λ (x : ℕ). size (x / d) - 24 ≡ h) is (go (size (n * 2 ^ h / d)) above under)
    where
      above : 23 + h < size (n * 2 ^ h / d)
      above = size_gt (23 + h) (n * 2 ^ h / d)
          ((le-div_iff_mul-le D).1
          (le_trans (le_of_eq (ap (λ (x : ℕ). x * d) (pow-add 2 23 h) ∙ mul_right_comm 8388608 (2 ^ h) d)) (mul-le-mul_right (2 ^ h) low)))

      under : size (n * 2 ^ h / d) ≤ 24 + h
      under = size-le (n * 2 ^ h / d) (24 + h)
          ((div-lt_iff_lt-mul D).1
          (lt_of_lt_of_le (mul-lt-mul_of_pos_right high (pow_pos h))
          (le_of_eq (mul_right_comm 16777216 d (2 ^ h) ∙ ap (λ (x : ℕ). x * d) (sym (pow-add 2 24 h))))))

      go : (z : ℕ) → 23 + h < z → z ≤ 24 + h → z - 24 ≡ h
      go z a b = omega arith

  pub rounded : of_bits binary32 bits ≡ round binary32 false m d
  rounded =
      bits_is
      ∙ ap (λ (x : ℕ). units binary32 false x h) (sym (closest_same (m * 2 ^ 149) (d * 2 ^ h) n d (mul-pos D (pow_pos h)) D (crossed (m * 2 ^ 149) (2 ^ h) is)))
      ∙ sym (round_is binary32 false m d ∙ ap (λ (k : ℕ). units binary32 false (closest (m * 2 ^ 149) (d * 2 ^ k)) k) dropped)
    where
      crossed : (x p : ℕ) → n * p ≡ x → x * d ≡ n * (d * p)
      crossed x p e = let i = ap (λ (z : ℕ). z * d) e in omega arith

  -- ---- the nearest
  error_bits : error m d bits ≡ whole_gap (q * d) n * 2 ^ h
  error_bits = ap₂ (λ (x y : ℕ). whole_gap (x * d) y) bits_units (sym is) ∙ ap (λ (x : ℕ). whole_gap x (n * 2 ^ h)) (mul_right_comm q (2 ^ h) d) ∙ gap_mul
      (q * d) n (2 ^ h)

  module _ (c : ℕ) (C : c < 0x7f800000) where
    grid : Grid (units_of c)
    grid = on_grid (of_bits binary32 c) false (units_of c) (of_bits-fits binary32 c) (bits_value c C)

    -- it is a multiple of 2 ^ h, or of fewer digits
    data Kind : Type 0 where
      multiple : (k : ℕ) → units_of c ≡ k * 2 ^ h → Kind
      smaller : units_of c < 8388608 * 2 ^ h → Kind

    kind : Kind
    kind = go (dec_le (2 ^ (23 + h)) (units_of c))
      where
        go : Dec (2 ^ (23 + h) ≤ units_of c) → Kind
        go (yes l) = let k = coarse (units_of c) h grid l in multiple k.0 k.1
        go (no l) = smaller (subst (λ (z : ℕ). units_of c < z) (pow-add 2 23 h) (omega arith))

    error_multiple : (k : ℕ) → units_of c ≡ k * 2 ^ h → error m d c ≡ whole_gap (k * d) n * 2 ^ h
    error_multiple k e = ap₂ (λ (x y : ℕ). whole_gap (x * d) y) e (sym is) ∙ ap (λ (x : ℕ). whole_gap x (n * 2 ^ h)) (mul_right_comm k (2 ^ h) d) ∙ gap_mul
        (k * d) n (2 ^ h)

    error_smaller : units_of c < 8388608 * 2 ^ h → error m d bits < error m d c
    error_smaller l =
        subst (λ (z : ℕ). error m d bits < whole_gap (units_of c * d) z) is
        (far n d (2 ^ h) (units_of c) (error m d bits) D low l (le_trans (le_of_eq error_bits) (mul-le-mul_right (2 ^ h) (nearer n d q D close 8388608))))

    not_nearer : error m d bits ≤ error m d c
    not_nearer = go kind
      where
        go : Kind → error m d bits ≤ error m d c
        go (multiple k e) = le_trans (le_of_eq error_bits) (le_trans (mul-le-mul_right (2 ^ h) (nearer n d q D close k)) (le_of_eq (sym (error_multiple k e))))
        go (smaller l) = le_of_lt (error_smaller l)

    -- another pattern that is as near is on the other side of a tie
    tie : c ≢ bits → error m d c ≡ error m d bits → (q * d * 2 ≡ n * 2 + d) ⊎ (n * 2 ≡ q * d * 2 + d)
    tie ne e = go kind
      where
        go : Kind → (q * d * 2 ≡ n * 2 + d) ⊎ (n * 2 ≡ q * d * 2 + d)
        go (smaller l) = absurd (lt_irrefl (error m d bits) (subst (λ (z : ℕ). error m d bits < z) e (error_smaller l)))
        go (multiple k f) =
            let g : whole_gap (k * d) n
            ≡ whole_gap (q * d) n = eq_of_mul-eq-mul_right (2 ^ h) (pow_pos h) (whole_gap (k * d) n) (whole_gap (q * d) n)
            (sym (error_multiple k f) ∙ e ∙ error_bits) in
            tied n d q D close k (λ i. ne (one_pattern c bits C bits_number (f ∙ ap (λ (z : ℕ). z * 2 ^ h) i ∙ sym bits_units))) g

    tie_even : c ≢ bits → error m d c ≡ error m d bits → bits % 2 ≡ 0
    tie_even ne e = let v : q % 2 ≡ 0 = ⊎_elim close.tie_up close.tie_down (tie ne e) in omega arith

    tie_none : (power : ℕ) → d * power ≡ 1000000 → c ≢ bits → error m d c ≡ error m d bits → ⊥
    tie_none power p ne e =
        let a : ℕ = m * 2 ^ (142 - h) in
        let f : n ≡ 128 * a = multiple_of_128 m n h short is in
        ⊎_elim (λ t. no_half_below a power d n q p f q_low t) (λ t. no_half a power d q p (half n a d q f t)) (tie ne e)

  pub nearest_bits : Nearest m d bits
  nearest_bits = record { number = bits_number; nearest = not_nearer; even = tie_even }

  pub alone_bits : (power : ℕ) → d * power ≡ 1000000 → Alone m d bits
  alone_bits power p c C ne = lt_of_le-ne (not_nearer c C) (λ e. tie_none c C power p ne (sym e))

  pub normal_bits : NotSubnormal bits
  normal_bits = let l = q_low in inr (omega arith)

-- ---- the pattern b is that of the rounded fraction, and all that is said of it
pub record Rounded (m d b : ℕ) : Type 0 where
  pub nearest : Nearest m d b
  pub alone : Alone m d b
  pub normal : NotSubnormal b
  pub value : of_bits binary32 b ≡ round binary32 false m d

-- ---- a fraction above 0: doubled until it has 24 digits before the point
pub positive : (m d : ℕ) → Tenths m d → 0 < d
positive m zero t = let h = t.below in absurd (omega arith)
positive m (suc d) t = omega arith

pub at_most : (m d : ℕ) → Tenths m d → d ≤ 1000000
at_most m d t = go t.power t.power_is
  where
    go : (p : ℕ) → d * p ≡ 1000000 → d ≤ 1000000
    go zero e = absurd (omega arith)
    go (suc p) e = omega arith

pub scaling_start : (m d : ℕ) → 0 < m → Tenths m d → Scaling m d (m * 128) 142
scaling_start m d h t =
    let b = t.below in
    let l = at_most m d t in
    record { is = mul_assoc m 128 (2 ^ 142); high = omega arith; low_h = omega arith; high_h = omega arith; reach = omega arith }

module _ (m d n h : ℕ) (s : Scaling m d n h) where
  pub scaling_more : n < 8388608 * d → 107 ≤ h
  scaling_more l = go (dec_lt h 107)
    where
      go : Dec (h < 107) → 107 ≤ h
      go (yes k) =
          let low = s.low_h in
          let e : h - 106 ≡ 0 = omega arith in
          let r : 8388608 * d ≤ n * 2 ^ 0 = subst (λ (x : ℕ). 8388608 * d ≤ n * 2 ^ x) e s.reach in
          absurd (omega arith)
      go (no k) = omega arith

  pub scaling_next : n < 8388608 * d → Scaling m d (n * 2) (h - 1)
  scaling_next l =
      let more = scaling_more l in
      let hi = s.high_h in
      let e : suc (h - 1) ≡ h = omega arith in
      let f : suc (h - 1 - 106) ≡ h - 106 = omega arith in
      record {
        is = double n (h - 1) ∙ ap (λ (x : ℕ). n * 2 ^ x) e ∙ s.is;
        high = omega arith;
        low_h = omega arith;
        high_h = omega arith;
        reach = le_trans s.reach (le_of_eq (sym (double n (h - 1 - 106) ∙ ap (λ (x : ℕ). n * 2 ^ x) f)));
      }
    where
      double : (n k : ℕ) → n * 2 * 2 ^ k ≡ n * 2 ^ suc k
      double n k = let p = two-pow-succ k in let a = ap (λ (z : ℕ). n * z) p in omega arith

  pub scaling_end : Tenths m d → 8388608 * d ≤ n → Rounded m d (h * 8388608 + closest n d)
  scaling_end t low =
      let D = positive m d t in
      record {
        nearest = nearest_bits m d n h D s.is low s.high s.high_h;
        alone = alone_bits m d n h D s.is low s.high s.high_h t.power t.power_is;
        normal = normal_bits m d n h D s.is low s.high s.high_h;
        value = rounded m d n h D s.is low s.high s.high_h;
      }

  -- the remainder is never half of the divisor
  pub scaling_no_tie : Tenths m d → n % d * 2 ≢ d
  scaling_no_tie t e = no_half (m * 2 ^ (142 - h)) t.power d (n / d) t.power_is (go (n / d) (n % d) (div-add-mod' n d) e)
    where
      go : (q r : ℕ) → q * d + r ≡ n → r * 2 ≡ d → (2 * q + 1) * d ≡ 256 * (m * 2 ^ (142 - h))
      go q r e f = let g = multiple_of_128 m n h s.high_h s.is in let k : (2 * q + 1) * d ≡ n * 2 = omega arith in omega arith

-- ---- a guess at the digits, where m is shifted by s and the test is passed
pub guessed : (m d s q : ℕ) → Tenths m d → 7 ≤ s → s ≤ 22 → q < 16777216 → 8388608 * d ≤ m * 2 ^ s → q * d * 2 < m * 2 ^ s * 2 + d → m * 2 ^ s * 2 < q * d * 2
    + d → Rounded m d ((149 - s) * 8388608 + q)
guessed m d s q t lo hi small low up down =
    subst (λ (c : ℕ). Rounded m d ((149 - s) * 8388608 + c)) (closest_is (m * 2 ^ s) d q (positive m d t) up down)
    (scaling_end m d (m * 2 ^ s) (149 - s) record {
      is = mul_assoc m (2 ^ s) (2 ^ (149 - s)) ∙ ap (λ (x : ℕ). m * x) (sym (pow-add 2 s (149 - s)) ∙ ap (λ (k : ℕ). 2 ^ k) whole);
      high = under (m * 2 ^ s) down;
      low_h = omega arith;
      high_h = omega arith;
      reach = le_trans low (larger (m * 2 ^ s) (2 ^ (149 - s - 106)) (pow_pos (149 - s - 106)));
    } t low)
  where
    whole : s + (149 - s) ≡ 149
    whole = omega arith

    under : (n : ℕ) → n * 2 < q * d * 2 + d → n < 16777216 * d
    under n h = let a : suc q * d ≤ 16777216 * d = mul-le-mul_right d small in omega arith

    larger : (n p : ℕ) → 0 < p → n ≤ n * p
    larger n zero h = absurd (omega arith)
    larger n (suc p) h = omega arith

record Found (m d : ℕ) : Type 0 where
  pub pattern : ℕ
  pub is : Rounded m d pattern

-- k is how often it may still be doubled
search_from : (m d : ℕ) → Tenths m d → (k n h : ℕ) → h ≤ 106 + k → Scaling m d n h → Found m d
search_from m d t zero n h l s = record {
  pattern = h * 8388608 + closest n d;
  is = scaling_end m d n h s t (go (dec_lt n (8388608 * d)));
}
  where
    go : Dec (n < 8388608 * d) → 8388608 * d ≤ n
    go (yes k) = let a = scaling_more m d n h s k in absurd (omega arith)
    go (no k) = omega arith
search_from m d t (suc k) n h l s =
    go (dec_lt n (8388608 * d)) (λ (b : n < 8388608 * d). search_from m d t k (n * 2) (h - 1) (omega arith) (scaling_next m d n h s b))
  where
    go : Dec (n < 8388608 * d) → (n < 8388608 * d → Found m d) → Found m d
    go (yes b) again = again b
    go (no b) again = record { pattern = h * 8388608 + closest n d; is = scaling_end m d n h s t (omega arith) }

-- ---- zero
plus_zero_lem : (d : ℕ) → HasValue (of_bits binary32 0) false 0 d
unfolding of_bits
plus_zero_lem d = (refl, zero-mul d)

zero_round : (d : ℕ) → 0 < d → of_bits binary32 0 ≡ round binary32 false 0 d
unfolding IsLe
zero_round d D =
    value_unique binary32 (of_bits binary32 0) (round binary32 false 0 d) false 0 d D (of_bits-fits binary32 0) (round-fits binary32 false 0 d) (plus_zero_lem d)
    (round_exact binary32 false 0 d 0 0 D (omega arith) (le_by_compare (suc (0 * 2 ^ 0)) (2 ^ 277) tt) (nothing (2 ^ 149)))
  where
    nothing : (a : ℕ) → 0 * a ≡ 0 * 2 ^ 0 * d
    nothing a = omega arith

zero_rounded : (d : ℕ) → 0 < d → Rounded 0 d 0
zero_rounded d D = record {
  nearest = record { number = omega arith; nearest = λ c C. le_trans (le_of_eq none) zero-le; even = λ c C ne e. refl };
  alone = λ c C ne. lt_of_le_of_lt (le_of_eq none) (some c (ne_pos c ne));
  normal = inl refl;
  value = zero_round d D;
}
  where
    none : error 0 d 0 ≡ 0
    none = let z : 0 * d ≡ 0 = zero-mul d in ap (λ (x : ℕ). whole_gap x 0) z

    ne_pos : (c : ℕ) → c ≢ 0 → 0 < c
    ne_pos zero ne = absurd (ne refl)
    ne_pos (suc c) ne = omega arith

    above : (x : ℕ) → 0 < x → 0 < whole_gap x 0
    above x h = omega arith

    some : (c : ℕ) → 0 < c → 0 < error 0 d c
    some c l = above (units_of c * d) (mul-pos (units_mono 0 c l) D)

-- ---- the theorem, for the file's decimals
pub tenths_rounded : (m d : ℕ) → Tenths m d → Rounded m d (to_bits binary32 (round binary32 false m d))
tenths_rounded m d t = go (dec_lt 0 m)
  where
    same : (b : ℕ) → Rounded m d b → to_bits binary32 (round binary32 false m d) ≡ b
    same b r =
        let n = r.nearest.number in
        ap (to_bits binary32) (sym r.value) ∙ to_bits-of_bits binary32 b (omega arith) (number_no_nan b n)

    at : (b : ℕ) → Rounded m d b → Rounded m d (to_bits binary32 (round binary32 false m d))
    at b r = subst (Rounded m d) (sym (same b r)) r

    go : Dec (0 < m) → Rounded m d (to_bits binary32 (round binary32 false m d))
    go (yes h) = let f = search_from m d t 36 (m * 128) 142 (omega arith) (scaling_start m d h t) in at f.pattern f.is
    go (no h) = let e : 0 ≡ m = omega arith in at 0 (subst (λ (x : ℕ). Rounded x d 0) e (zero_rounded d (positive m d t)))

-- ---- there is only one
between : (x y z t : ℕ) → x < y → y < z → whole_gap x t ≡ whole_gap z t → whole_gap y t < whole_gap x t
between x y z t a b e = omega arith

module _ (m d : ℕ) (D : 0 < d) where
  not_below : (b c : ℕ) → Nearest m d b → Nearest m d c → b < c → ⊥
  not_below b c B C l =
      let e : error m d b ≡ error m d c = le_antisymm (B.nearest c C.number) (C.nearest b B.number) in
      let ne : c ≢ b = λ q. lt_irrefl b (subst (λ (z : ℕ). b < z) q l) in
      let eb = B.even c C.number ne (sym e) in
      let ec = C.even b B.number (λ q. ne (sym q)) e in
      let s : suc b < c = parity b c eb ec l in
      let n : suc b < 0x7f800000 = lt_of_lt_of_le s (le_of_lt C.number) in
      let x = mul-lt-mul_of_pos_right (units_next b) D in
      let y = mul-lt-mul_of_pos_right (units_mono (suc b) c s) D in
      let f = between (units_of b * d) (units_of (suc b) * d) (units_of c * d) (m * 2 ^ 149) x y e in
      lt_irrefl (error m d b) (lt_of_le_of_lt (B.nearest (suc b) n) f)
    where
      parity : (b c : ℕ) → b % 2 ≡ 0 → c % 2 ≡ 0 → b < c → suc b < c
      parity b c p q l = omega arith

  pub nearest_unique : (b c : ℕ) → Nearest m d b → Nearest m d c → b ≡ c
  nearest_unique b c B C = go (dec_lt b c) (dec_lt c b)
    where
      go : Dec (b < c) → Dec (c < b) → b ≡ c
      go (yes l) k = absurd (not_below b c B C l)
      go (no l) (yes k) = absurd (not_below c b C B k)
      go (no l) (no k) = omega arith
