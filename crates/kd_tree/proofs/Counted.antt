-- Ordering and splitting keep every count. Assumes nothing.
use mathlib.Core.Path.{◌≡◌, refl, sym, ◌∙◌}
use mathlib.Core.Bool.{Bool, true, false, cond}
use mathlib.Core.List.{List, [], ◌∷◌, ◌++◌}
use Prim.Native.Nat.{ℕ, zero, suc, ◌+◌, ◌/◌}
use native.Mathlib.Omega.{arith}
use lib.Dec.{leb}
use lib.Ieee.{Float}
use lib.ListN.{length, take, drop, take-append-drop}
use Rattle.lists.specs.Lists.{count}
use Rattle.lists.proofs.Counts.{count_append, count_all}
use Rattle.axis_sort.specs.Axis.{precedes}
use Rattle.axis_sort.specs.Halving.{halving}
use Rattle.axis_sort.specs.Sorted.{from_first, merged, sorted_by}
use Rattle.kd_tree.specs.Boxes.{box_of, longest}
use Rattle.kd_tree.specs.Tree.{leaf_size, along}

module _ (p : ℕ → Bool) where
  chosen : (b : Bool) (x y : List ℕ) (n : ℕ) → count p x ≡ n → count p y ≡ n → count p (cond b x y) ≡ n
  chosen true x y n e f = e
  chosen false x y n e f = f

  merged_count : (le : ℕ → ℕ → Bool) (n : ℕ) (xs ys : List ℕ) → length xs + length ys ≡ n → count p (merged le n xs ys) ≡ count p xs + count p ys
  unfolding merged from_first
  merged_count le zero [] [] e = refl
  merged_count le zero [] (y ∷ ys) e = absurd (omega arith)
  merged_count le zero (x ∷ xs) ys e = absurd (omega arith)
  merged_count le (suc n) [] [] e = absurd (omega arith)
  merged_count le (suc n) [] (y ∷ ys) e = omega (arith, merged_count le n [] ys (omega arith))
  merged_count le (suc n) (x ∷ xs) [] e = omega (arith, merged_count le n xs [] (omega arith))
  merged_count le (suc n) (x ∷ xs) (y ∷ ys) e =
      chosen (le x y) _ _ _ (omega (arith, merged_count le n xs (y ∷ ys) (omega arith))) (omega (arith, merged_count le n (x ∷ xs) ys (omega arith)))

  module _ (limit : ℕ) (node : List ℕ → List ℕ → List ℕ → List ℕ) (ready : List ℕ → List ℕ)
      (kept : (xs : List ℕ) → count p (ready xs) ≡ count p xs) (adds : (l a b : List ℕ) → count p (node l a b) ≡ count p a + count p b) where
    halving_count : (n : ℕ) (xs : List ℕ) → count p (halving limit (λ l. l) node ready n xs) ≡ count p xs
    unfolding halving
    halving_count zero xs = refl
    halving_count (suc n) xs =
        let m = length xs / 2 in
        either (leb (length xs) limit) xs _ refl
        (adds _ _ _ ∙ rw (
          halving_count n (take m (ready xs)),
          halving_count n (drop m (ready xs)),
          ← count_append p (take m (ready xs))
              (drop m (ready xs)),
          take-append-drop m (ready xs),
        ) (kept xs))
      where
        either : (t : Bool) (x y : List ℕ) → count p x ≡ count p xs → count p y ≡ count p xs → count p (elim t [ true ↦ x | false ↦ y ]) ≡ count p xs
        either true x y e f = e
        either false x y e f = f

  pub sorted_count : (le : ℕ → ℕ → Bool) (xs : List ℕ) → count p (sorted_by le xs) ≡ count p xs
  unfolding sorted_by
  sorted_count le xs = halving_count 1 (λ _ a b. merged le (length a + length b) a b) (λ l. l) (λ l. refl)
      (λ _ a b. merged_count le (length a + length b) a b refl) (length xs) xs

  pub along_count : (points : List Float) (xs : List ℕ) → count p (along points xs) ≡ count p xs
  unfolding along
  along_count points xs = sorted_count (precedes points (longest (box_of points xs))) xs

  -- the order that the splits leave, at any depth
  pub split_count : (points : List Float) (n : ℕ) (xs : List ℕ) → count p (halving leaf_size (λ l. l) (λ _ a b. a ++ b) (along points) n xs) ≡ count p xs
  split_count points n xs = halving_count leaf_size (λ _ a b. a ++ b) (along points) (along_count points) (λ _ a b. count_append p a b) n xs

pub along_length : (points : List Float) (xs : List ℕ) → length (along points xs) ≡ length xs
along_length points xs = sym (count_all (along points xs)) ∙ along_count (λ (x : ℕ). true) points xs ∙ count_all xs

pub split_length : (points : List Float) (n : ℕ) (xs : List ℕ) → length (halving leaf_size (λ l. l) (λ _ a b. a ++ b) (along points) n xs) ≡ length xs
split_length points n xs =
    let ys = halving leaf_size (λ l. l) (λ _ a b. a ++ b) (along points) n xs in
    sym (count_all ys) ∙ split_count (λ (x : ℕ). true) points n xs ∙ count_all xs
