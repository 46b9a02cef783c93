-- Laws of `leading`, by which a loop over the values finds it, and what it says of each value. Assumes nothing.
use mathlib.Core.Path.{◌≡◌, refl, sym, ap, ◌∙◌}
use mathlib.Core.Bool.{Bool, true, false, cond}
use mathlib.Core.List.{List, [], ◌∷◌}
use Prim.Native.Nat.{ℕ, zero, suc, ◌+◌, ◌≤◌, ◌<◌}
use native.Mathlib.Nat.{not-suc-le-zero, le_of_suc-le-suc}
use native.Mathlib.Omega.{arith}
use native.Mathlib.Numerals.{add-one}
use lib.ListN.{length, drop, get_or, drop_of_length-le}
use lib.Ieee.{Float, nan, le, lt, eq}
use Rattle.lists.proofs.Bools.{and_false}
use Rattle.ranges.specs.Range.{inside, leading}

module _ (lo hi : Float) where
  -- a not-a-number is outside every range
  pub inside_nan : inside lo hi nan ≡ false
  unfolding inside le lt eq
  inside_nan = and_false (le lo nan)

  leading_suc : (xs : List Float) (i : ℕ) → leading lo hi (drop i xs) ≡ cond (inside lo hi (get_or xs i nan)) (suc (leading lo hi (drop (suc i) xs))) 0
  unfolding leading
  leading_suc [] zero = rw inside_nan
  leading_suc [] (suc i) = rw inside_nan
  leading_suc (x ∷ xs) zero = refl
  leading_suc (x ∷ xs) (suc i) = leading_suc xs i

  -- a turn of the loop at index i, whose test is b
  module _ (xs : List Float) (i : ℕ) (b : Bool) (test : b ≡ inside lo hi (get_or xs i nan)) (inv : leading lo hi xs ≡ i + leading lo hi (drop i xs)) where
    step : leading lo hi (drop i xs) ≡ cond b (suc (leading lo hi (drop (i + 1) xs))) 0
    step =
        leading_suc xs i
        ∙ ap (λ (t : Bool). cond t (suc (leading lo hi (drop (suc i) xs))) 0) (sym test)
        ∙ ap (λ (k : ℕ). cond b (suc (leading lo hi (drop k xs))) 0) (sym (add-one i))

    pub leading_found : b ≡ false → leading lo hi xs ≡ i
    leading_found e =
        let s : leading lo hi (drop i xs) ≡ 0 = step ∙ ap (λ (t : Bool). cond t (suc (leading lo hi (drop (i + 1) xs))) 0) e in
        omega arith

    pub leading_passed : b ≡ true → leading lo hi xs ≡ i + 1 + leading lo hi (drop (i + 1) xs)
    leading_passed e =
        let s : leading lo hi (drop i xs)
        ≡ suc (leading lo hi (drop (i + 1) xs)) = step ∙ ap (λ (t : Bool). cond t (suc (leading lo hi (drop (i + 1) xs))) 0) e in
        omega arith

  pub leading_start : (xs : List Float) → leading lo hi xs ≡ 0 + leading lo hi (drop 0 xs)
  leading_start xs = omega arith

  pub leading_end : (xs : List Float) (i : ℕ) → length xs ≤ i → leading lo hi xs ≡ i + leading lo hi (drop i xs) → leading lo hi xs ≡ i
  unfolding leading
  leading_end xs i long inv =
      let s : leading lo hi (drop i xs) ≡ 0 = ap (leading lo hi) (drop_of_length-le xs long) in
      omega arith

  -- every value before the first that is outside is inside
  pub leading_inside : (xs : List Float) (k : ℕ) → k < leading lo hi xs → inside lo hi (get_or xs k nan) ≡ true
  unfolding leading
  leading_inside [] k h = absurd (not-suc-le-zero h)
  leading_inside (x ∷ xs) k h = at (inside lo hi x) refl k h (λ j l. leading_inside xs j l)
    where
      at : (b : Bool) → inside lo hi x ≡ b → (j : ℕ) → j < cond b (suc (leading lo hi xs)) 0
          → ((i : ℕ) → i < leading lo hi xs → inside lo hi (get_or xs i nan) ≡ true) → inside lo hi (get_or (x ∷ xs) j nan) ≡ true
      at false e j l rest = absurd (not-suc-le-zero l)
      at true e zero l rest = e
      at true e (suc j) l rest = rest j (le_of_suc-le-suc l)

  pub leading_most : (xs : List Float) → leading lo hi xs ≤ length xs
  unfolding leading
  leading_most [] = omega arith
  leading_most (x ∷ xs) = at (inside lo hi x) (leading_most xs)
    where
      at : (b : Bool) → leading lo hi xs ≤ length xs → cond b (suc (leading lo hi xs)) 0 ≤ suc (length xs)
      at true l = omega arith
      at false l = omega arith
