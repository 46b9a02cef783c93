-- What an f32's bit pattern stands for, in units of 2^-149, the smallest f32: a pattern from 0x00800000 to 0x7f7fffff
-- is a significand of 24 digits and its place (`normal_value`), one below is its own number of units (`small_value`).
-- Back from a value: an f32 that is q * 2^k units, q of 24 digits, has the pattern k * 2^23 + q (`written`), and so has
-- the rounded root (`units_written`).
use mathlib.Core.Path.{◌≡◌, refl, sym, ap, ◌∙◌, subst}
use Prim.Native.Nat.{ℕ, zero, suc, ◌+◌, ◌-◌, ◌*◌, ◌/◌, ◌%◌, ◌^◌, ◌≤◌, ◌<◌}
use native.Mathlib.Nat.{lt_irrefl, lt_of_lt_of_le, lt_of_le_of_lt, lt_of_not-le, zero-add, mul-one, mul-pos, mul-div_cancel, mul-le-mul_right}
use native.Mathlib.Omega.{arith}
use native.Mathlib.Decide.{dec_lt}
use mathlib.Core.Bool.{Bool, true, false, not, cond}
use lib.Dec.{T, leb, ltb, eqb, le→leb, lt→ltb, not_T, eqb→eq}
use lib.Arith.{lt→nleb}
use lib.Pow.{pow-add, pow_pos, pow_mono, pow-lt, shl_lt, shl-shr}
use lib.Ieee.{Float, nan, inf, fin, binary32, up, down, size, odd, units, fits, is_nan, of_fields, of_bits, nan_bits, to_bits}
use lib.Ieee.Digits.{size-le, size-lt}
use lib.Ieee.Fits.{odd-fits, down_pos}
use lib.Ieee.Positive.{first_pos}
use lib.Ieee.Exact.{HasValue, odd_sign, units_val}
use lib.Ieee.Bits.{is_true, is_false, cond_no, of_bits-to_bits, nan_bits_is}

-- ---- how many digits a number has

pub pow_lt_back : (i p : ℕ) → 2 ^ i < 2 ^ p → i < p
pow_lt_back i p h = lt_of_not-le (λ (g : p ≤ i). lt_irrefl (2 ^ i) (lt_of_lt_of_le h (pow_mono g)))

pub size_gt : (a n : ℕ) → 2 ^ a ≤ n → a < size n
size_gt a n h = pow_lt_back a (size n) (lt_of_le_of_lt h (size-lt n))

-- q of 24 digits, moved up k places
pub shl_ge : {q : ℕ} (j k : ℕ) → 2 ^ j ≤ q → 2 ^ (j + k) ≤ q * 2 ^ k
shl_ge {q} j k h = subst (λ (x : ℕ). x ≤ q * 2 ^ k) (sym (pow-add 2 j k)) (mul-le-mul_right (2 ^ k) h)

over : (q k : ℕ) → 2 ^ 23 ≤ q → q < 2 ^ 24 → size (q * 2 ^ k) - 24 ≡ k
over q k lo hi =
    let a : size (q * 2 ^ k) ≤ 24 + k = size-le (q * 2 ^ k) (24 + k) (shl_lt 24 k hi) in
    let b : 23 + k < size (q * 2 ^ k) = size_gt (23 + k) (q * 2 ^ k) (shl_ge 23 k lo) in
    off (size (q * 2 ^ k)) k a b
  where
    off : (z k : ℕ) → z ≤ 24 + k → 23 + k < z → z - 24 ≡ k
    off z k a b = omega arith

-- ---- from a value to its pattern

-- the pattern of a units
abbrev write : ℕ → ℕ
write a = (size a - 24) * 8388608 + a / 2 ^ (size a - 24)

exact : (w l d a : ℕ) → 0 < d → w * l ≡ a * d → w * l / d ≡ a
exact w l d a D h = ap (λ (x : ℕ). x / d) h ∙ mul-div_cancel a D

to_bits_is : (m : ℕ) (e : _) (a : ℕ) → m * up e * 2 ^ 149 / down e ≡ a → to_bits binary32 (fin false m e) ≡ write a
unfolding to_bits
to_bits_is m e a h =
    ap (λ (n : ℕ). 0 + (size n - 24) * 8388608 + n / 2 ^ (size n - 24)) h ∙ ap (λ (x : ℕ). x + a / 2 ^ (size a - 24)) (zero-add ((size a - 24) * 8388608))

by_units : (v : Float) (a : ℕ) → T (fits binary32 v) → HasValue v false a (2 ^ 149) → of_bits binary32 (write a) ≡ v
by_units nan a f h = absurd h
by_units (inf s) a f h = absurd h
by_units (fin s m e) a f (p, h) =
    let g : T (fits binary32 (fin false m e)) = subst (λ (t : Bool). T (fits binary32 (fin t m e))) p f in
    ap (of_bits binary32) (sym (to_bits_is m e a (exact (m * up e) (2 ^ 149) (down e) a (down_pos e) h)))
    ∙ of_bits-to_bits binary32 (fin false m e) g
    ∙ ap (λ (t : Bool). fin t m e) (sym p)

written : (v : Float) (q k : ℕ) → 2 ^ 23 ≤ q → q < 2 ^ 24 → T (fits binary32 v) → HasValue v false (q * 2 ^ k) (2 ^ 149) → of_bits binary32 (k * 8388608 + q) ≡ v
written v q k lo hi f h =
    ap (of_bits binary32) (sym (ap (λ (z : ℕ). z * 8388608 + q * 2 ^ k / 2 ^ z) (over q k lo hi) ∙ ap (λ (x : ℕ). k * 8388608 + x) (shl-shr q k)))
    ∙ by_units v (q * 2 ^ k) f h

-- ---- the rounded root: r of 24 digits, or 2^24, with h places dropped

in_range_lem : (r h : ℕ) → r ≤ 2 ^ 24 → h < 253 → r * 2 ^ h < 2 ^ 277
in_range_lem r h top H =
    lt_of_le_of_lt (mul-le-mul_right (2 ^ h) top) (subst (λ (x : ℕ). x < 2 ^ 277) (pow-add 2 24 h) (pow-lt {i = 24 + h} {j = 277} (omega arith)))

units_odd : (r h : ℕ) → r * 2 ^ h < 2 ^ 277 → units binary32 false r h ≡ odd 25 false r h 149
unfolding units
units_odd r h H = ap (λ (b : Bool). cond b (odd 25 false r h 149) (inf false)) (is_true (ltb (r * 2 ^ h) (2 ^ 277)) (lt→ltb (r * 2 ^ h) (2 ^ 277) H))

pub units_fits : (r h : ℕ) → r ≤ 2 ^ 24 → h < 253 → T (fits binary32 (units binary32 false r h))
units_fits r h top H =
    let i = in_range_lem r h top H in
    subst (λ (v : Float). T (fits binary32 v)) (sym (units_odd r h i)) (odd-fits binary32 25 false r h (omega arith) top i)

pub units_value : (r h : ℕ) → r ≤ 2 ^ 24 → h < 253 → HasValue (units binary32 false r h) false (r * 2 ^ h) (2 ^ 149)
units_value r h top H = units_val binary32 false r h (in_range_lem r h top H)

pub units_written : (r h : ℕ) → 2 ^ 23 ≤ r → r ≤ 2 ^ 24 → h < 253 → of_bits binary32 (h * 8388608 + r) ≡ units binary32 false r h
units_written r h lo top H = go (dec_lt r (2 ^ 24))
  where
    f : T (fits binary32 (units binary32 false r h))
    f = units_fits r h top H

    v : HasValue (units binary32 false r h) false (r * 2 ^ h) (2 ^ 149)
    v = units_value r h top H

    go : Dec (r < 2 ^ 24) → of_bits binary32 (h * 8388608 + r) ≡ units binary32 false r h
    go (yes hi) = written (units binary32 false r h) r h lo hi f v
    go (no g) =
        let e : r ≡ 2 ^ 24 = omega arith in
        let w : r * 2 ^ h ≡ 2 ^ 23 * 2 ^ suc h = ap (λ (x : ℕ). x * 2 ^ h) e ∙ sym (pow-add 2 24 h) ∙ ap (λ (x : ℕ). 2 ^ x) (place h) ∙ pow-add 2 23 (suc h) in
        let b : h * 8388608 + r ≡ suc h * 8388608 + 2 ^ 23 = omega arith in
        ap (of_bits binary32) b ∙ written (units binary32 false r h) (2 ^ 23) (suc h) (omega arith) (omega arith) f
        (subst (λ (a : ℕ). HasValue (units binary32 false r h) false a (2 ^ 149)) w v)
      where
        place : (h : ℕ) → 24 + h ≡ 23 + suc h
        place h = omega arith

-- ---- from a pattern to its value

pub value_no_nan : (v : Float) (s : Bool) (a c : ℕ) → HasValue v s a c → T (not (is_nan v))
unfolding is_nan
value_no_nan nan s a c h = h
value_no_nan (inf t) s a c h = tt
value_no_nan (fin t m e) s a c h = tt

pub no_nan_bits : (b : ℕ) → T (not (is_nan (of_bits binary32 b))) → T (not (nan_bits binary32 b))
no_nan_bits b h = subst (λ (x : Bool). T (not x)) (sym (nan_bits_is binary32 b)) h

fields : (s : Bool) (b x : ℕ) → leb 2147483648 b ≡ s → b % 2147483648 / 8388608 ≡ x → of_bits binary32 b ≡ of_fields binary32 s x (b % 8388608)
unfolding of_bits
fields s b x p e =
    ap (λ (t : Bool). of_fields binary32 t (b % 2147483648 / 8388608) (b % 8388608)) p ∙ ap (λ (y : ℕ). of_fields binary32 s y (b % 8388608)) e

normal_field : (s : Bool) (x t : ℕ) → suc x < 255 → of_fields binary32 s (suc x) t ≡ odd 24 s (8388608 + t) x 149
unfolding of_fields
normal_field s x t h =
    cond_no (eqb (suc x) 255) (cond (eqb t 0) (inf s) nan) (odd 24 s (8388608 + t) x 149) (not_T (eqb (suc x) 255) (λ u. differ (eqb→eq (suc x) 255 u)))
  where
    differ : suc x ≡ 255 → ⊥
    differ e = omega arith

small_field : (s : Bool) (t : ℕ) → of_fields binary32 s 0 t ≡ odd 24 s t 0 149
unfolding of_fields
small_field s t = refl

-- with the sign s and the rest of the pattern split into its two fields
normal_signed : (s : Bool) (b x : ℕ) → leb 2147483648 b ≡ s → b % 2147483648 / 8388608 ≡ suc x → suc x < 255
    → HasValue (of_bits binary32 b) s ((8388608 + b % 8388608) * 2 ^ x) (2 ^ 149)
normal_signed s b x p e h =
    subst (λ (v : Float). HasValue v s ((8388608 + b % 8388608) * 2 ^ x) (2 ^ 149)) (sym (fields s b (suc x) p e ∙ normal_field s x (b % 8388608) h))
    (odd_sign 24 s (8388608 + b % 8388608) x 149)

small_signed : (s : Bool) (b : ℕ) → leb 2147483648 b ≡ s → b % 2147483648 / 8388608 ≡ 0 → HasValue (of_bits binary32 b) s (b % 8388608) (2 ^ 149)
small_signed s b p e =
    subst (λ (v : Float). HasValue v s (b % 8388608) (2 ^ 149)) (sym (fields s b 0 p e ∙ small_field s (b % 8388608)))
    (subst (λ (a : ℕ). HasValue (odd 24 s (b % 8388608) 0 149) s a (2 ^ 149)) (mul-one (b % 8388608)) (odd_sign 24 s (b % 8388608) 0 149))

plus : (b : ℕ) → b < 2 ^ 31 → leb 2147483648 b ≡ false
plus b h = is_false (leb 2147483648 b) (lt→nleb 2147483648 b h)

pub normal_value : (b : ℕ) → 2 ^ 23 ≤ b → b < 0x7f800000 → HasValue (of_bits binary32 b) false ((8388608 + b % 8388608) * 2 ^ (b / 8388608 - 1)) (2 ^ 149)
normal_value b lo hi = normal_signed false b (b / 8388608 - 1) (plus b (omega arith)) (omega arith) (omega arith)

pub small_value : (b : ℕ) → b < 2 ^ 23 → HasValue (of_bits binary32 b) false b (2 ^ 149)
small_value b hi =
    let t : b % 8388608 ≡ b = omega arith in
    subst (λ (a : ℕ). HasValue (of_bits binary32 b) false a (2 ^ 149)) t (small_signed false b (plus b (omega arith)) (omega arith))

-- ---- the other patterns: below zero, or a NaN, or an infinity

-- v is a number below zero, or minus infinity, or a NaN
abbrev pub Below : Float → Type 0
Below nan = Unit {0}
Below (inf s) = s ≡ true
Below (fin s m e) = (s ≡ true) × (0 < m)

below_value : (v : Float) (a c : ℕ) → 0 < a → HasValue v true a c → Below v
below_value nan a c p h = absurd h
below_value (inf s) a c p h = absurd h
below_value (fin s m e) a c p (q, h) = (q, first_pos m (up e) (first_pos (m * up e) c (subst (λ (n : ℕ). 0 < n) (sym h) (mul-pos p (down_pos e)))))

top_field : (s : Bool) (t : ℕ) → of_fields binary32 s 255 t ≡ cond (eqb t 0) (inf s) nan
unfolding of_fields
top_field s t = refl

below_top : (b : Bool) → Below (cond b (inf true) nan)
below_top true = refl
below_top false = tt

pub minus_below : (b : ℕ) → 0x80000000 < b → b < 2 ^ 32 → Below (of_bits binary32 b)
minus_below b lo hi = go (b % 2147483648 / 8388608) refl
  where
    s : leb 2147483648 b ≡ true
    s = is_true (leb 2147483648 b) (le→leb 2147483648 b (omega arith))

    go : (x : ℕ) → b % 2147483648 / 8388608 ≡ x → Below (of_bits binary32 b)
    go zero e = below_value (of_bits binary32 b) (b % 8388608) (2 ^ 149) (omega arith) (small_signed true b s e)
    go (suc x) e = high (dec_lt (suc x) 255)
      where
        high : Dec (suc x < 255) → Below (of_bits binary32 b)
        high (yes h) = below_value (of_bits binary32 b) ((8388608 + b % 8388608) * 2 ^ x) (2 ^ 149) (mul-pos (omega arith) (pow_pos x))
            (normal_signed true b x s e h)
        high (no g) =
            let f : b % 2147483648 / 8388608 ≡ 255 = omega arith in
            subst Below (sym (fields true b 255 s f ∙ top_field true (b % 8388608))) (below_top (eqb (b % 8388608) 0))
