-- A loop that fills a list of any element from the front, one store a turn. Assumes nothing.
use mathlib.Core.Path.{◌≡◌, refl, sym, ap, ◌∙◌}
use mathlib.Core.List.{List, [], ◌∷◌, ◌++◌}
use Prim.Native.Nat.{ℕ, zero, suc, ◌+◌, ◌<◌}
use native.Mathlib.Nat.{not-suc-le-zero, le_of_suc-le-suc}
use native.Mathlib.Numerals.{add-one}
use lib.ListN.{length, set, drop, replicate}

module _ {A : Type 0} (v : A) where
  fill_suc : (n : ℕ) (d : List A) → n < length d → set (replicate n v ++ drop n d) n v ≡ replicate (suc n) v ++ drop (suc n) d
  fill_suc n [] l = absurd (not-suc-le-zero l)
  fill_suc zero (x ∷ d) l = refl
  fill_suc (suc n) (x ∷ d) l = ap (λ (t : List A). v ∷ t) (fill_suc n d (le_of_suc-le-suc l))

  -- a store of v at n, where the first n are v already
  pub fill_step : (n : ℕ) (d w : List A) → n < length d → w ≡ replicate n v ++ drop n d → set w n v ≡ replicate (n + 1) v ++ drop (n + 1) d
  fill_step n d w l e = ap (λ (t : List A). set t n v) e ∙ fill_suc n d l ∙ ap (λ (k : ℕ). replicate k v ++ drop k d) (sym (add-one n))
