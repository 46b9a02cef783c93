-- Laws of a number at a place of the bytes, as the code meets its parts. Assumes nothing.
use mathlib.Core.Path.{◌≡◌, refl, sym, ap, ◌∙◌}
use mathlib.Core.Bool.{Bool, true, false, cond}
use mathlib.Core.List.{List}
use Prim.Native.Nat.{ℕ, ◌+◌, ◌-◌, ◌^◌, ◌≤◌, ◌<◌}
use native.Mathlib.Omega.{arith}
use native.Mathlib.Nat.{pow-le-pow_right}
use borrow.Author.Tests.{leb-true}
use lib.Dec.{leb, lit<}
use lib.ListN.{take, drop}
use lib.Seq.{drop-drop}
use lib.Ieee.{Float}
use Rattle.std.specs.Prelude.{Some, None}
use Rattle.std.specs.Bool.{then_some}
use Rattle.decimals.specs.Decimal.{decimal}
use Rattle.numerals.specs.Format.{Parsed, parsed, malformed, starts_with, digits, few, digits_value, fraction, unsigned_number, number}
use Rattle.numerals.specs.Inner.Answers.{skipped_digits}
use Rattle.numerals.specs.Inner.Ready.{Digits}
use Rattle.numerals.proofs.Bytes.{both}

pub few_most : (count most : ℕ) → few count most ≡ true → (1 ≤ count) × (count ≤ most)
unfolding few
few_most count most e = let b = both (leb 1 count) (leb count most) e in (leb-true _ _ b.0, leb-true _ _ b.1)

-- ---- digits from a place to the place `end`, 1 to most
pub record Skipped (s : List ℕ) (at most end : ℕ) : Type 0 where
  pub found : end ≡ at + digits (drop at s)
  pub few : few (end - at) most ≡ true

chosen : (t : Bool) (n end : ℕ) → Some end ≡ cond t (Some n) None → (t ≡ true) × (end ≡ n)
chosen true n end e = (refl, cc)
chosen false n end e = cc

not_chosen : (t : Bool) (n : ℕ) → None ≡ cond t (Some n) None → t ≡ false
not_chosen true n e = cc
not_chosen false n e = refl

told : (t : Bool) (n : ℕ) → then_some t n ≡ cond t (Some n) None
told true n = refl
told false n = refl

module _ (s : List ℕ) (at most : ℕ) where
  pub skipped_some : (end : ℕ) → Some end ≡ skipped_digits s at most → Skipped s at most end
  unfolding skipped_digits
  skipped_some end e =
      let p = chosen (few (digits (drop at s)) most) (at + digits (drop at s)) end e in
      let n : end - at ≡ digits (drop at s) = omega arith in
      record { found = p.1; few = rw n p.0 }

  pub skipped_none : None ≡ skipped_digits s at most → few (digits (drop at s)) most ≡ false
  unfolding skipped_digits
  skipped_none e = not_chosen (few (digits (drop at s)) most) (at + digits (drop at s)) e

  -- what the code tells of digits that it found
  pub skipped_found : (end : ℕ) (t : Bool) → end ≡ at + digits (drop at s) → t ≡ few (end - at) most → then_some t end ≡ skipped_digits s at most
  unfolding skipped_digits
  skipped_found end t found e =
      let n : end - at ≡ digits (drop at s) = omega arith in
      rw (e, n, found) (told (few (digits (drop at s)) most) (at + digits (drop at s)))

  module _ (end : ℕ) (k : Skipped s at most end) where
    pub skipped_count : end - at ≡ digits (drop at s)
    skipped_count = omega (arith, k.found)

    pub skipped_digits_ready : most ≤ 6 → Digits s at end
    skipped_digits_ready six = let f = few_most (end - at) most k.few in record { ordered = omega arith; few = omega arith; all = omega arith }

    pub skipped_rest : drop (digits (drop at s)) (drop at s) ≡ drop end s
    skipped_rest = drop-drop (digits (drop at s)) at s ∙ ap (λ (n : ℕ). drop n s) (sym k.found)

-- what few digits write is small
pub below_power : (v count most : ℕ) → v < 10 ^ count → few count most ≡ true → v < 10 ^ most
below_power v count most below e = let f = few_most count most e in let h : 10 ^ count ≤ 10 ^ most = pow-le-pow_right (lit< tt) f.1 in omega arith

module _ (s : List ℕ) (at : ℕ) (negative : Bool) where
  -- ---- the fraction
  module _ (units : ℕ) where
    pub fraction_none : (v : Float) → starts_with 46 (drop at s) ≡ false → v ≡ decimal negative units 0 0 → parsed v (drop at s)
        ≡ fraction negative units (drop at s)
    unfolding fraction
    fraction_none v none e = rw (none, e)

    module _ (dot : starts_with 46 (drop at s) ≡ true) where
      pub fraction_bad : few (digits (drop (at + 1) s)) 6 ≡ false → malformed ≡ fraction negative units (drop at s)
      unfolding fraction
      fraction_bad e = rw (dot, drop-drop 1 at s, e)

      pub fraction_read : (end : ℕ) → Skipped s (at + 1) 6 end → (v : Float) (parts : ℕ)
          → parts ≡ digits_value 0 (take (end - (at + 1)) (drop (at + 1) s)) → v ≡ decimal negative units parts (end - (at + 1))
          → parsed v (drop end s) ≡ fraction negative units (drop at s)
      unfolding fraction
      fraction_read end k v parts p d =
          let n = skipped_count s (at + 1) 6 end k in
          rw (dot, drop-drop 1 at s, skipped_rest s (at + 1) 6 end k, ← n, k.few, d, p)

  -- ---- the whole part
  pub magnitude_bad : few (digits (drop at s)) 5 ≡ false → malformed ≡ unsigned_number negative (drop at s)
  unfolding unsigned_number
  magnitude_bad e = rw e

  pub magnitude_read : (end : ℕ) → Skipped s at 5 end → (units : ℕ) (p : Parsed Float) → units ≡ digits_value 0 (take (end - at) (drop at s))
      → p ≡ fraction negative units (drop end s) → p ≡ unsigned_number negative (drop at s)
  unfolding unsigned_number
  magnitude_read end k units p u d =
      let n = skipped_count s at 5 end k in rw (skipped_rest s at 5 end k, ← n, k.few, ← u) d

-- ---- the sign
module _ (s : List ℕ) (at : ℕ) where
  -- a number is what stands behind the minus, if there is one
  pub number_start : number (drop at s) ≡ unsigned_number (starts_with 45 (drop at s)) (drop (cond (starts_with 45 (drop at s)) (at + 1) at) s)
  unfolding number
  number_start = go (starts_with 45 (drop at s))
    where
      go : (t : Bool) → cond t (unsigned_number true (drop 1 (drop at s))) (unsigned_number false (drop at s)) ≡ unsigned_number t (drop (cond t (at + 1) at) s)
      go true = ap (unsigned_number true) (drop-drop 1 at s)
      go false = refl

  pub number_signed : (start : ℕ) (negative : Bool) (p : Parsed Float) → start ≡ cond (starts_with 45 (drop at s)) (at + 1) at → negative
      ≡ starts_with 45 (drop at s)
      → p ≡ unsigned_number negative (drop start s) → p ≡ number (drop at s)
  number_signed start negative p e n h = rw (number_start, ← e, ← n) h
