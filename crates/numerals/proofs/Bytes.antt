-- Laws of what stands at a place of the bytes: a byte, digits, the number that digits write. Assumes nothing.
use mathlib.Core.Path.{◌≡◌, refl, sym, ap, ◌∙◌, subst}
use mathlib.Core.Bool.{Bool, true, false, cond, ◌&&◌}
use mathlib.Core.List.{List, [], ◌∷◌}
use Prim.Native.Nat.{ℕ, zero, suc, ◌+◌, ◌-◌, ◌*◌, ◌^◌, ◌≤◌, ◌<◌}
use native.Mathlib.Numerals.{add-one}
use native.Mathlib.Omega.{arith}
use native.Mathlib.Nat.{pow-suc, pow-le-pow_right}
use lib.Dec.{T, eqb, lit<}
use borrow.Author.Tests.{leb-true}
use lib.ListN.{length, take, drop, get_or, drop_of_length-le}
use lib.Seq.{drop-cons, drop-drop}
use Rattle.numerals.specs.Format.{starts_with, is_digit, starts_digit, digits, few, digits_value}

-- ---- one byte
module _ (f : List ℕ → Bool) (empty : f [] ≡ false) where
  pub past : (s : List ℕ) (at : ℕ) → length s ≤ at → f (drop at s) ≡ false
  past s at h = ap f (drop_of_length-le s h) ∙ empty

  -- what a list must have a byte for holds only inside
  pub inside : (s : List ℕ) (at : ℕ) → f (drop at s) ≡ true → at < length s
  inside [] zero e = absurd (subst T (sym e ∙ empty) tt)
  inside [] (suc at) e = absurd (subst T (sym e ∙ empty) tt)
  inside (b ∷ s) zero e = omega arith
  inside (b ∷ s) (suc at) e = let h : at < length s = inside s at e in omega arith

pub starts_here : (c : ℕ) (s : List ℕ) (at : ℕ) → at < length s → eqb (get_or s at 0) c ≡ starts_with c (drop at s)
unfolding starts_with
starts_here c s at h = rw (drop-cons s at 0 h)

pub starts_past : (c : ℕ) (s : List ℕ) (at : ℕ) → length s ≤ at → false ≡ starts_with c (drop at s)
unfolding starts_with
starts_past c s at h = sym (past (starts_with c) refl s at h)

pub starts_inside : (c : ℕ) (s : List ℕ) (at : ℕ) → starts_with c (drop at s) ≡ true → at < length s
unfolding starts_with
starts_inside c = inside (starts_with c) refl

pub digit_here : (s : List ℕ) (at : ℕ) → at < length s → is_digit (get_or s at 0) ≡ starts_digit (drop at s)
unfolding starts_digit
digit_here s at h = rw (drop-cons s at 0 h)

pub digit_past : (s : List ℕ) (at : ℕ) → length s ≤ at → false ≡ starts_digit (drop at s)
unfolding starts_digit
digit_past s at h = sym (past starts_digit refl s at h)

pub digit_inside : (s : List ℕ) (at : ℕ) → starts_digit (drop at s) ≡ true → at < length s
unfolding starts_digit
digit_inside = inside starts_digit refl

-- ---- a run of digits
digits_more : (bs : List ℕ) → starts_digit bs ≡ true → digits bs ≡ suc (digits (drop 1 bs))
unfolding starts_digit digits
digits_more [] e = absurd (subst T (sym e) tt)
digits_more (b ∷ bs) e = rw e

pub digits_step : (s : List ℕ) (at : ℕ) → starts_digit (drop at s) ≡ true → digits (drop at s) ≡ suc (digits (drop (at + 1) s))
digits_step s at e = digits_more (drop at s) e ∙ ap (λ (l : List ℕ). suc (digits l)) (drop-drop 1 at s)

pub digits_end : (bs : List ℕ) → starts_digit bs ≡ false → digits bs ≡ 0
unfolding starts_digit digits
digits_end [] e = refl
digits_end (b ∷ bs) e = rw e

digits_some : (bs : List ℕ) → 0 < digits bs → starts_digit bs ≡ true
unfolding starts_digit digits
digits_some [] h = absurd (omega arith)
digits_some (b ∷ bs) h = go (is_digit b) h
  where
    go : (t : Bool) → 0 < cond t (suc (digits bs)) 0 → t ≡ true
    go true h = refl
    go false h = absurd (omega arith)

pub both : (a b : Bool) → (a && b) ≡ true → (a ≡ true) × (b ≡ true)
both true b e = (refl, e)
both false b e = absurd (subst T (sym e) tt)

-- ---- the number that digits write
-- the digit at i, with more before `end`
pub record Digit (s : List ℕ) (i end v : ℕ) : Type 0 where
  pub inside : i < length s
  pub low : 48 ≤ get_or s i 0
  pub high : get_or s i 0 ≤ 57
  pub rest : end - (i + 1) ≤ digits (drop (i + 1) s)
  pub same : digits_value v (take (end - i) (drop i s)) ≡ digits_value (v * 10 + (get_or s i 0 - 48)) (take (end - (i + 1)) (drop (i + 1) s))

pub next_digit : (s : List ℕ) (i end v : ℕ) → i < end → end - i ≤ digits (drop i s) → Digit s i end v
unfolding digits_value
next_digit s i end v h all =
    let here : starts_digit (drop i s) ≡ true = digits_some (drop i s) (omega arith) in
    let within : i < length s = digit_inside s i here in
    let more : digits (drop i s) ≡ suc (digits (drop (i + 1) s)) = digits_step s i here in
    let n : end - i ≡ suc (end - (i + 1)) = omega arith in
    let left : end - (i + 1) ≤ digits (drop (i + 1) s) = omega arith in
    let byte = both _ _ (digit_here s i within ∙ here) in
    record {
      inside = within;
      low = leb-true _ _ byte.0;
      high = leb-true _ _ byte.1;
      rest = left;
      same = rw (n, drop-cons s i 0 within, ← add-one i);
    }

-- a digit more is a power of ten more
pub grow : (v d at i : ℕ) → at ≤ i → v < 10 ^ (i - at) → d ≤ 57 → v * 10 + (d - 48) < 10 ^ (i + 1 - at)
grow v d at i h below digit =
    let n : i + 1 - at ≡ suc (i - at) = omega arith in
    rw (n, pow-suc 10 (i - at)) (omega arith)

pub small : (v n : ℕ) → v < 10 ^ n → n ≤ 5 → v < 100000
small v n below few = let h : 10 ^ n ≤ 10 ^ 5 = pow-le-pow_right (lit< tt) few in omega arith
