-- Laws of `ceil` and then the cut, by cases on the float. Assumes nothing.
use mathlib.Core.Path.{◌≡◌, refl, sym, ap, ◌∙◌, subst}
use mathlib.Core.Bool.{Bool, true, false, not, ◌&&◌, ◌||◌}
use Prim.Native.Nat.{ℕ, zero, suc, ◌+◌, ◌*◌, ◌/◌, ◌%◌, ◌^◌, ◌≤◌, ◌<◌, min}
use native.Mathlib.Nat.{mul-one, one-mul, mul_right_comm, mul-div_cancel, div-add-mod', div-lt_iff_lt-mul, le_of_eq, mul-lt-mul_of_pos_right, mul-le-mul_right}
use native.Mathlib.Nat.{mod-one}
use native.Mathlib.Omega.{arith}
use lib.Dec.{T, ltb, eqb, leb, ltb→lt}
use borrow.Author.Tests.{ltb-true, ltb-false, eqb-true, eqb-false, lt-ltb, le-ltb}
use lib.IntN.{ℤ, pos, negsuc}
use lib.Pow.{pow_pos}
use lib.Ieee.{Float, nan, inf, fin, binary32, lt, le, eq, up, down, odd, fits, of_int, to_unsigned}
use lib.Ieee.Fits.{down_pos, and_l, and_r}
use lib.Ieee.Exact.{HasValue, odd_sign}
use lib.Ieee.Back.{round_whole}
use Rattle.numbers.specs.Cut.{ceil}
use Rattle.cutting.proofs.FieldCases.{cut_positive, cut_below_zero}

clash : {A : Type 0} → true ≡ false → A
clash e = absurd (subst T e tt)

-- ---- what a comparison with 2 ^ k says

abbrev pub power : ℕ → Float
power k = fin false 1 (pos k)

or_le : (a b : ℕ) → (ltb a b || (eqb a b && true)) ≡ true → a ≤ b
or_le a b h = go (ltb a b) (eqb a b) refl refl h
  where
    go : (s t : Bool) → ltb a b ≡ s → eqb a b ≡ t → (s || (t && true)) ≡ true → a ≤ b
    go true t e f k = omega (arith, ltb-true a b e)
    go false true e f k = le_of_eq (eqb-true a b f)
    go false false e f k = clash (sym k)

or_gt : (a b : ℕ) → (ltb a b || (eqb a b && true)) ≡ false → b < a
or_gt a b h = go (ltb a b) (eqb a b) refl refl h
  where
    go : (s t : Bool) → ltb a b ≡ s → eqb a b ≡ t → (s || (t && true)) ≡ false → b < a
    go true t e f k = clash k
    go false true e f k = clash k
    go false false e f k = omega (arith, ltb-false a b e, eqb-false a b f)

from_power : (k m : ℕ) (e : ℤ) → le (power k) (fin false m e) ≡ true → 2 ^ k * down e ≤ m * up e
unfolding le lt eq
from_power k m e h = rw (one-mul, mul-one) at (or_le (1 * 2 ^ k * down e) (m * up e * 1) h)

under_power : (k m : ℕ) (e : ℤ) → le (power k) (fin false m e) ≡ false → m * up e < 2 ^ k * down e
unfolding le lt eq
under_power k m e h = rw (one-mul, mul-one) at (or_gt (1 * 2 ^ k * down e) (m * up e * 1) h)

-- ---- `ceil`, and then the cut

cut_whole : (n : ℕ) → to_unsigned 32 (odd 128 false n 0 0) ≡ min n 4294967295
cut_whole n =
    cut_positive (odd 128 false n 0 0) (n * 2 ^ 0) (2 ^ 0) (pow_pos 0) (odd_sign 128 false n 0 0) ∙ ap (λ (a : ℕ). min a 4294967295)
    (mul-div_cancel n (pow_pos 0))

cut_negative : (n : ℕ) → 0 ≡ to_unsigned 32 (odd 128 true n 0 0)
cut_negative n = sym (cut_below_zero (odd 128 true n 0 0) (n * 2 ^ 0) (2 ^ 0) (odd_sign 128 true n 0 0))

-- where nothing is dropped `ceil` changes nothing
cut_exact : (m : ℕ) (e : ℤ) → m * up e % down e ≡ 0 → to_unsigned 32 (fin false m e) ≡ to_unsigned 32 (ceil (fin false m e))
unfolding ceil to_unsigned
cut_exact m e z = rw z (sym (cut_whole (m * up e / down e)))

-- where something is, it is one more
one_more : (q : ℕ) → q < 16777216 → min q 4294967295 + 1 ≡ min (q + 1) 4294967295
one_more q h = omega arith

cut_above : (m : ℕ) (e : ℤ) → 0 < m * up e % down e → m * up e / down e < 16777216 → to_unsigned 32 (fin false m e) + 1 ≡ to_unsigned 32 (ceil (fin false m e))
unfolding ceil to_unsigned
cut_above m e p h =
    let t : ltb 0 (m * up e % down e) ≡ true = lt-ltb 0 (m * up e % down e) p in
    rw t (one_more (m * up e / down e) h ∙ sym (cut_whole (m * up e / down e + 1)))

second : (a b c d : Bool) → T (a && b && c && d) → T b
second a b c d h = and_r a b (and_l (a && b) c (and_l (a && b && c) d h))

-- from 2 ^ 24 on an f32 has no fraction
no_fraction : (m : ℕ) (e : ℤ) → T (fits binary32 (fin false m e)) → 16777216 * down e ≤ m * up e → m * up e % down e ≡ 0
unfolding fits
no_fraction m (pos k) h l = mod-one (m * 2 ^ k)
no_fraction zero (negsuc k) h l = absurd (omega (arith, down_pos (negsuc k)))
no_fraction (suc m) (negsuc k) h l =
    let b : T (ltb (suc m) 16777216) = second (eqb (suc m % 2) 1) (ltb (suc m) 16777216) (leb (2 ^ suc k) (2 ^ 149))
    (ltb (suc m * 1) (2 ^ 128 * 2 ^ suc k)) h in
    absurd (omega (arith, ltb→lt (suc m) 16777216 b, down_pos (negsuc k)))

pub ceil_large : (x : Float) → T (fits binary32 x) → le (power 24) x ≡ true → to_unsigned 32 x ≡ to_unsigned 32 (ceil x)
unfolding to_unsigned ceil
ceil_large nan f h = refl
ceil_large (inf s) f h = refl
ceil_large (fin true m e) f h = cut_negative (m * up e / down e)
ceil_large (fin false m e) f h = cut_exact m e (no_fraction m e f (from_power 24 m e h))

under_div : (m : ℕ) (e : ℤ) → le (power 24) (fin false m e) ≡ false → m * up e / down e < 16777216
under_div m e h = (div-lt_iff_lt-mul (down_pos e)).1 (under_power 24 m e h)

pub cut_small : (x : Float) → le (power 24) x ≡ false → to_unsigned 32 x < 16777216
unfolding to_unsigned le lt eq
cut_small nan h = omega arith
cut_small (inf true) h = omega arith
cut_small (inf false) h = clash h
cut_small (fin true m e) h = omega arith
cut_small (fin false m e) h = omega (arith, under_div m e h)

-- whether x is above the whole number n
abbrev above : ℕ → Float → Bool
above n nan = false
above n (inf s) = not s
above n (fin true m e) = false
above n (fin false m e) = ltb (n * down e) (m * up e)

scaled : (a b d : ℕ) → 0 < d → ltb (a * d) (b * d) ≡ ltb a b
scaled a b d p = go (ltb a b) refl
  where
    go : (t : Bool) → ltb a b ≡ t → ltb (a * d) (b * d) ≡ t
    go true e = lt-ltb (a * d) (b * d) (mul-lt-mul_of_pos_right (ltb-true a b e) p)
    go false e = le-ltb (a * d) (b * d) (mul-le-mul_right d (ltb-false a b e))

lt_whole : (y : Float) (n : ℕ) (x : Float) → HasValue y false n 1 → lt y x ≡ above n x
unfolding lt
lt_whole nan n x v = absurd v
lt_whole (inf s) n x v = absurd v
lt_whole (fin true k d) n x v = clash v.0
lt_whole (fin false k d) n nan v = refl
lt_whole (fin false k d) n (inf s) v = refl
lt_whole (fin false k d) n (fin true m e) v = refl
lt_whole (fin false k d) n (fin false m e) v =
    let q : k * up d * down e ≡ n * down e * down d = ap (λ (a : ℕ). a * down e) (sym (mul-one (k * up d)) ∙ v.1) ∙ mul_right_comm n (down d) (down e) in
    rw q (scaled (n * down e) (m * up e) (down d) (down_pos d))

above_cut : (x : Float) (t : Bool) → le (power 24) x ≡ false → lt (of_int binary32 (pos (to_unsigned 32 x))) x ≡ t → above (to_unsigned 32 x) x ≡ t
unfolding of_int
above_cut x t h k =
    sym (lt_whole (of_int binary32 (pos (to_unsigned 32 x))) (to_unsigned 32 x) x
    (round_whole binary32 false (to_unsigned 32 x) (omega (arith, cut_small x h)))) ∙ k

module _ (m : ℕ) (e : ℤ) (h : le (power 24) (fin false m e) ≡ false) where
  uncut : to_unsigned 32 (fin false m e) ≡ m * up e / down e
  unfolding to_unsigned
  uncut = omega (arith, under_div m e h)

  parts : m * up e / down e * down e + m * up e % down e ≡ m * up e
  parts = div-add-mod' (m * up e) (down e)

-- where the cut is below x, there was a fraction
pub ceil_up : (x : Float) → le (power 24) x ≡ false → lt (of_int binary32 (pos (to_unsigned 32 x))) x ≡ true → to_unsigned 32 x + 1 ≡ to_unsigned 32 (ceil x)
unfolding le lt eq
ceil_up x h k = go x h (above_cut x true h k)
  where
    go : (x : Float) → le (power 24) x ≡ false → above (to_unsigned 32 x) x ≡ true → to_unsigned 32 x + 1 ≡ to_unsigned 32 (ceil x)
    go nan h k = clash (sym k)
    go (inf true) h k = clash (sym k)
    go (inf false) h k = clash h
    go (fin true m e) h k = clash (sym k)
    go (fin false m e) h k =
        let l : m * up e / down e * down e < m * up e = ltb-true (m * up e / down e * down e) (m * up e) (rw (uncut m e h) at k) in
        cut_above m e (omega (arith, parts m e h)) (under_div m e h)

-- where it is not, there was none
pub ceil_stay : (x : Float) → le (power 24) x ≡ false → lt (of_int binary32 (pos (to_unsigned 32 x))) x ≡ false → to_unsigned 32 x ≡ to_unsigned 32 (ceil x)
unfolding le lt eq to_unsigned ceil
ceil_stay x h k = go x h (above_cut x false h k)
  where
    go : (x : Float) → le (power 24) x ≡ false → above (to_unsigned 32 x) x ≡ false → to_unsigned 32 x ≡ to_unsigned 32 (ceil x)
    go nan h k = refl
    go (inf s) h k = refl
    go (fin true m e) h k = cut_negative (m * up e / down e)
    go (fin false m e) h k =
        let l : m * up e ≤ m * up e / down e * down e = ltb-false (m * up e / down e * down e) (m * up e) (rw (uncut m e h) at k) in
        cut_exact m e (omega (arith, parts m e h))
