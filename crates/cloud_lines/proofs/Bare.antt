-- Laws of what is skipped: what a place behind it says of what stands there. Assumes nothing.
use mathlib.Core.Path.{◌≡◌, refl, sym, ap}
use mathlib.Core.Bool.{Bool, true, false, cond}
use mathlib.Core.List.{List}
use Prim.Native.Nat.{ℕ, ◌+◌}
use native.Mathlib.Omega.{arith}
use lib.ListN.{drop}
use lib.Seq.{drop-drop}
use lib.Ieee.{Float}
use Rattle.numerals.specs.Format.{Parsed, parsed, malformed, then, starts_with, digits, few, fraction, unsigned_number, number}
use Rattle.cloud_lines.specs.Inner.Bare.{bare, skip_means}
use Rattle.numerals.specs.Inner.Answers.{skipped_digits}
use Rattle.numerals.proofs.Numeral.{skipped_some, skipped_none, skipped_count, skipped_rest, number_start}
use Rattle.std.specs.Prelude.{Option, Some, None}

-- ---- a place
module _ {A : Type 0} where
  got : (p : Parsed A) (rest : List ℕ) → parsed tt rest ≡ bare p → (a : A) × (p ≡ parsed a rest)
  unfolding bare
  got (parsed a rest') rest e = (a, cc)
  got malformed rest e = let z : ◌≡◌ {A = ℕ} 0 1 = cc in absurd (omega arith)

  not : (p : Parsed A) → malformed ≡ bare p → p ≡ malformed
  unfolding bare
  not (parsed a rest) e = let z : ◌≡◌ {A = ℕ} 0 1 = cc in absurd (omega arith)
  not malformed e = refl

  -- a place is behind something
  pub skipped : (s : List ℕ) (r : ℕ) (p : Parsed A) → skip_means s (Some r) ≡ bare p → (a : A) × (p ≡ parsed a (drop r s))
  unfolding skip_means
  skipped s r p e = got p (drop r s) e

  pub skipped_not : (s : List ℕ) (p : Parsed A) → skip_means s None ≡ bare p → p ≡ malformed
  unfolding skip_means
  skipped_not s p e = not p e

  -- one thing, and then another: what is behind the second is behind both
  module _ {B : Type 0} (s : List ℕ) (p : Parsed A) (f : A → List ℕ → Parsed B) where
    pub then_none : skip_means s None ≡ bare p → skip_means s None ≡ bare (then p f)
    unfolding skip_means bare then
    then_none e = rw (skipped_not s p e)

    pub then_some : (r : ℕ) → skip_means s (Some r) ≡ bare p → (end : Option ℕ) → ((a : A) → skip_means s end ≡ bare (f a (drop r s)))
        → skip_means s end ≡ bare (then p f)
    unfolding then
    then_some r e end go = let q = skipped s r p e in rw q.1 (go q.0)

  -- what is made of a value alone takes no more bytes
  pub bare_then : {B : Type 0} (p : Parsed A) (f : A → B) → bare p ≡ bare (then p (λ a rest. parsed (f a) rest))
  unfolding bare then
  bare_then (parsed a rest) f = refl
  bare_then malformed f = refl

-- ---- digits
-- the place behind some digits, where they are few
choose : {A : Type 0} (s : List ℕ) (at n : ℕ) (v : A) (t : Bool) → skip_means s (cond t (Some (at + n)) None)
    ≡ bare (cond t (parsed v (drop n (drop at s))) malformed)
unfolding bare skip_means
choose s at n v true = ap (parsed tt) (sym (drop-drop n at s))
choose s at n v false = refl

module _ (s : List ℕ) (at : ℕ) where
  pub fraction_skipped : (r : Option ℕ) → starts_with 46 (drop at s) ≡ true → r ≡ skipped_digits s (at + 1) 6
      → (negative : Bool) (units : ℕ) → skip_means s r ≡ bare (fraction negative units (drop at s))
  unfolding fraction skipped_digits
  fraction_skipped r dot e negative units =
      rw (dot, drop-drop 1 at s, e) (choose s (at + 1) (digits (drop (at + 1) s)) _ (few (digits (drop (at + 1) s)) 6))

  pub fraction_absent : starts_with 46 (drop at s) ≡ false → (negative : Bool) (units : ℕ)
      → skip_means s (Some at) ≡ bare (fraction negative units (drop at s))
  unfolding fraction bare skip_means
  fraction_absent dot negative units = rw dot

  pub magnitude_none : None ≡ skipped_digits s at 5 → (negative : Bool) → skip_means s None ≡ bare (unsigned_number negative (drop at s))
  unfolding unsigned_number bare skip_means
  magnitude_none e negative = rw (skipped_none s at 5 e)

  pub magnitude_some : (end : ℕ) → Some end ≡ skipped_digits s at 5 → (r : Option ℕ)
      → ((negative : Bool) (units : ℕ) → skip_means s r ≡ bare (fraction negative units (drop end s)))
      → (negative : Bool) → skip_means s r ≡ bare (unsigned_number negative (drop at s))
  unfolding unsigned_number
  magnitude_some end e r go negative =
      let k = skipped_some s at 5 end e in
      rw (skipped_rest s at 5 end k, ← skipped_count s at 5 end k, k.few) (go negative _)

  pub number_skipped : (start : ℕ) (r : Option ℕ) → start ≡ cond (starts_with 45 (drop at s)) (at + 1) at
      → ((negative : Bool) → skip_means s r ≡ bare (unsigned_number negative (drop start s)))
      → skip_means s r ≡ bare (number (drop at s))
  number_skipped start r e go = rw (number_start s at, ← e) (go (starts_with 45 (drop at s)))

-- ---- a field: the byte behind the number, or another
pub ended : (end : ℕ) (s : List ℕ) (next : ℕ) (v : Float) → starts_with end (drop next s) ≡ true → skip_means s (Some (next + 1))
    ≡ bare (cond (starts_with end (drop next s)) (parsed v (drop 1 (drop next s))) malformed)
unfolding bare skip_means
ended end s next v e = rw (e, drop-drop 1 next s)

pub not_ended : (end : ℕ) (s : List ℕ) (next : ℕ) (v : Float) → starts_with end (drop next s) ≡ false → skip_means s None
    ≡ bare (cond (starts_with end (drop next s)) (parsed v (drop 1 (drop next s))) malformed)
unfolding bare skip_means
not_ended end s next v e = rw e
