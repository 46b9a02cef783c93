-- The cut by the fields of a pattern is the cut of the number that the pattern stands for, for all patterns
-- (`fields_cut`, `pattern_cut`). Assumes nothing.
use mathlib.Core.Path.{◌≡◌, refl, sym, ap, ◌∙◌, subst}
use mathlib.Core.Bool.{Bool, true, false, cond}
use Prim.Native.Nat.{ℕ, zero, suc, ◌+◌, ◌-◌, ◌*◌, ◌/◌, ◌%◌, ◌^◌, ◌≤◌, ◌<◌, min}
use native.Mathlib.Nat.{le_trans, le_of_eq, lt_of_lt_of_le, mul_comm, mul_assoc, mul-div-mul_right, mul-div_cancel, div-eq_of_lt, div-le_self}
use native.Mathlib.Nat.{le-div_iff_mul-le}
use native.Mathlib.Omega.{arith}
use native.Mathlib.Decide.{dec_lt}
use lib.Dec.{T, ltb, eqb, eqb-suc-zero}
use borrow.Author.Tests.{lt-ltb, le-ltb, eqb-true, eqb-false}
use lib.Pow.{pow-add, pow_pos, pow_mono, shl_lt}
use lib.Ieee.{Float, nan, inf, fin, binary32, up, down, odd, of_fields, of_bits, to_unsigned, ne}
use lib.Ieee.Fits.{down_pos}
use lib.Ieee.Compare.{differs_from_itself}
use lib.Ieee.Exact.{HasValue, odd_sign}
use Rattle.cutting.specs.CutFields.{cut_fields, negative_of, exponent_of, fraction_field}
use Rattle.numbers.proofs.RootPattern.{shl_ge}

-- ---- a value, cut

same_quotient : (p d a c : ℕ) → 0 < d → 0 < c → p * c ≡ a * d → p / d ≡ a / c
same_quotient p d a c D C h =
    sym (mul-div-mul_right p d C) ∙ ap (λ (n : ℕ). n / (d * c)) h ∙ ap (λ (n : ℕ). a * d / n) (mul_comm d c) ∙ mul-div-mul_right a c D

pub cut_positive : (y : Float) (a c : ℕ) → 0 < c → HasValue y false a c → to_unsigned 32 y ≡ min (a / c) 4294967295
unfolding to_unsigned
cut_positive nan a c C v = absurd v
cut_positive (inf s) a c C v = absurd v
cut_positive (fin s m e) a c C v = rw v.0 (ap (λ (n : ℕ). min n 4294967295) (same_quotient (m * up e) (down e) a c (down_pos e) C v.1))

pub cut_below_zero : (y : Float) (a c : ℕ) → HasValue y true a c → to_unsigned 32 y ≡ 0
unfolding to_unsigned
cut_below_zero nan a c v = absurd v
cut_below_zero (inf s) a c v = absurd v
cut_below_zero (fin s m e) a c v = rw v.0

-- ---- (2 ^ 23 + t) * 2 ^ x units of 2 ^ -149

small : (n : ℕ) → n < 2 ^ 32 → min n 4294967295 ≡ n
small n h = omega arith

capped : (n : ℕ) → 2 ^ 32 ≤ n → min n 4294967295 ≡ 4294967295
capped n h = omega arith

value : (q x : ℕ) → to_unsigned 32 (odd 24 false q x 149) ≡ min (q * 2 ^ x / 2 ^ 149) 4294967295
value q x = cut_positive (odd 24 false q x 149) (q * 2 ^ x) (2 ^ 149) (pow_pos 149) (odd_sign 24 false q x 149)

module _ (q x : ℕ) (hi : q < 2 ^ 24) where
  below_one : x < 126 → min (q * 2 ^ x / 2 ^ 149) 4294967295 ≡ 0
  below_one h =
      let l : q * 2 ^ x < 2 ^ 149 = lt_of_lt_of_le (shl_lt 24 x hi) (pow_mono {j = 149} (omega arith)) in
      let z : q * 2 ^ x / 2 ^ 149 ≡ 0 = div-eq_of_lt l in
      rw z

  part : 126 ≤ x → x < 149 → min (q * 2 ^ x / 2 ^ 149) 4294967295 ≡ q / 2 ^ (150 - suc x)
  part h k =
      let e : 2 ^ 149 ≡ 2 ^ (150 - suc x) * 2 ^ x = ap (λ (n : ℕ). 2 ^ n) (back x k) ∙ pow-add 2 (150 - suc x) x in
      let z : q * 2 ^ x / 2 ^ 149 ≡ q / 2 ^ (150 - suc x) = ap (λ (n : ℕ). q * 2 ^ x / n) e ∙ mul-div-mul_right q (2 ^ (150 - suc x)) (pow_pos x) in
      let l = div-le_self q (2 ^ (150 - suc x)) in
      ap (λ (n : ℕ). min n 4294967295) z ∙ small (q / 2 ^ (150 - suc x)) (omega arith)
    where
      back : (x : ℕ) → x < 149 → 149 ≡ 150 - suc x + x
      back x h = omega arith

  moved : 149 ≤ x → x < 158 → min (q * 2 ^ x / 2 ^ 149) 4294967295 ≡ q * 2 ^ (suc x - 150)
  moved h k =
      let e : 2 ^ x ≡ 2 ^ (suc x - 150) * 2 ^ 149 = ap (λ (n : ℕ). 2 ^ n) (back x h) ∙ pow-add 2 (suc x - 150) 149 in
      let z : q * 2 ^ x / 2 ^ 149 ≡ q * 2 ^ (suc x - 150) =
      ap (λ (n : ℕ). q * n / 2 ^ 149) e ∙ ap (λ (n : ℕ). n / 2 ^ 149) (sym (mul_assoc q (2 ^ (suc x - 150)) (2 ^ 149))) ∙ mul-div_cancel (q * 2 ^ (suc x - 150))
      (pow_pos 149) in
      let l : q * 2 ^ (suc x - 150) < 2 ^ 32 = lt_of_lt_of_le (shl_lt 24 (suc x - 150) hi) (pow_mono {j = 32} (omega arith)) in
      ap (λ (n : ℕ). min n 4294967295) z ∙ small (q * 2 ^ (suc x - 150)) l
    where
      back : (x : ℕ) → 149 ≤ x → x ≡ suc x - 150 + 149
      back x h = omega arith

  past : 2 ^ 23 ≤ q → 158 ≤ x → min (q * 2 ^ x / 2 ^ 149) 4294967295 ≡ 4294967295
  past lo h =
      let l : 2 ^ (32 + 149) ≤ q * 2 ^ x = le_trans (pow_mono {i = 32 + 149} (omega arith)) (shl_ge 23 x lo) in
      let g : 2 ^ 32 ≤ q * 2 ^ x / 2 ^ 149 = (le-div_iff_mul-le (pow_pos 149)).1 (le_trans (le_of_eq (sym (pow-add 2 32 149))) l) in
      capped (q * 2 ^ x / 2 ^ 149) g

-- a number of either sign that is below one
below : (s : Bool) (q x : ℕ) → q < 2 ^ 24 → x < 126 → 0 ≡ to_unsigned 32 (odd 24 s q x 149)
below true q x h k = sym (cut_below_zero (odd 24 true q x 149) _ _ (odd_sign 24 true q x 149))
below false q x h k = sym (value q x ∙ below_one q x h k)

-- a normal number, by the lines of the definition
module _ (x t : ℕ) (h : t < 8388608) where
  above : (k : ℕ) → k ≤ suc x → ltb (suc x) k ≡ false
  above k h = le-ltb (suc x) k h

  normal_cut : (s : Bool) → suc x < 255 → cut_fields s (suc x) t ≡ to_unsigned 32 (odd 24 s (8388608 + t) x 149)
  unfolding cut_fields
  normal_cut s l = rw (eqb-suc-zero x) (go s (dec_lt x 126) (dec_lt x 149) (dec_lt x 158))
    where
      q : ℕ
      q = 8388608 + t

      go : (s : Bool) → Dec (x < 126) → Dec (x < 149) → Dec (x < 158)
          → cond (ltb (suc x) 127) 0
          (cond s 0 (cond (ltb (suc x) 150) (q / 2 ^ (150 - suc x))
          (cond (ltb (suc x) 159) (q * 2 ^ (suc x - 150)) (cond (ltb (suc x) 255) 4294967295 (cond (ltb 0 t) 0 4294967295)))))
          ≡ to_unsigned 32 (odd 24 s q x 149)
      go s (yes a) b c = rw (lt-ltb (suc x) 127 (omega arith)) (below s q x (omega arith) a)
      go true (no a) b c = rw (above 127 (omega arith)) (sym (cut_below_zero (odd 24 true q x 149) _ _ (odd_sign 24 true q x 149)))
      go false (no a) (yes b) c = rw (above 127 (omega arith), lt-ltb (suc x) 150 (omega arith)) (sym (value q x ∙ part q x (omega arith) (omega arith) b))
      go false (no a) (no b) (yes c) = rw (above 127 (omega arith), above 150 (omega arith), lt-ltb (suc x) 159 (omega arith))
          (sym (value q x ∙ moved q x (omega arith) (omega arith) c))
      go false (no a) (no b) (no c) = rw (above 127 (omega arith), above 150 (omega arith), above 159 (omega arith), lt-ltb (suc x) 255 l)
          (sym (value q x ∙ past q x (omega arith) (omega arith) (omega arith)))

-- an infinity or a not-a-number
last_cut : (s : Bool) (t : ℕ) → cut_fields s 255 t ≡ to_unsigned 32 (cond (eqb t 0) (inf s) nan)
unfolding cut_fields to_unsigned
last_cut true zero = refl
last_cut false zero = refl
last_cut true (suc t) = rw (eqb-suc-zero t)
last_cut false (suc t) = rw (eqb-suc-zero t, lt-ltb 0 (suc t) (omega arith))

pub fields_cut : (s : Bool) (e t : ℕ) → e < 256 → t < 8388608 → cut_fields s e t ≡ to_unsigned 32 (of_fields binary32 s e t)
unfolding cut_fields of_fields
fields_cut s zero t l h = below s t 0 (omega arith) (omega arith)
fields_cut s (suc x) t l h = go (eqb (suc x) 255) refl
  where
    go : (b : Bool) → eqb (suc x) 255 ≡ b → cut_fields s (suc x) t ≡ to_unsigned 32 (cond b (cond (eqb t 0) (inf s) nan) (odd 24 s (8388608 + t) x 149))
    go true e = subst (λ (n : ℕ). cut_fields s n t ≡ to_unsigned 32 (cond (eqb t 0) (inf s) nan)) (sym (eqb-true (suc x) 255 e)) (last_cut s t)
    go false e = let n = eqb-false (suc x) 255 e in normal_cut x t h s (omega arith)

pub pattern_cut : (b : ℕ) → b < 2 ^ 32 → cut_fields (negative_of b) (exponent_of b) (fraction_field b) ≡ to_unsigned 32 (of_bits binary32 b)
unfolding of_bits
pattern_cut b h =
    let e : exponent_of b ≡ b % 2147483648 / 8388608 = omega arith in
    ap (λ (e : ℕ). cut_fields (negative_of b) e (fraction_field b)) e ∙ fields_cut (negative_of b) (b % 2147483648 / 8388608) (fraction_field b) (omega arith)
    (omega arith)

-- a not-a-number, by the test that the code makes
pub nan_cut : (x : Float) → ne x x ≡ true → 0 ≡ to_unsigned 32 x
nan_cut x e = subst (λ (v : Float). 0 ≡ to_unsigned 32 v) (sym (differs_from_itself x (subst T (sym e) tt))) (unfold to_unsigned in refl)
