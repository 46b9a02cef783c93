-- Both orders of popping lose and repeat no entry. Assumes nothing.
use Prim.Native.Nat.{ℕ, zero, suc, ◌+◌, ◌-◌, ◌<◌}
use mathlib.Core.Path.{◌≡◌, refl, sym, ap, ◌∙◌}
use mathlib.Core.Logic.{⊎_elim, ◌≢◌}
use mathlib.Core.Bool.{Bool, true, false}
use mathlib.Core.List.{List, [], ◌∷◌, ◌++◌}
use native.Mathlib.Omega.{arith}
use lib.Dec.{eqb, ltb}
use borrow.Author.Tests.{eqb-true, eqb-false, ltb-true}
use lib.ListN.{length, get_or, set, take, length-set}
use lib.Seq.{length-take-le, take-suc, take-length, get_or-take, get_or-set_other}
use Rattle.lists.specs.Lists.{bit, count}
use Rattle.patch.specs.Fair.{Keeps}
use Rattle.patch.specs.Frontier.{sift, after_pop, no_edge, heap_of, queue_of, waiting_after, pop_of}
use Rattle.lists.proofs.Bools.{either}
use Rattle.lists.proofs.Counts.{count_append}

module _ {A : Type 0} (d : A) (p : A → Bool) where
  -- one entry for another
  count_set : (xs : List A) (i : ℕ) (v : A) → i < length xs → count p (set xs i v) + bit (p (get_or xs i d)) ≡ count p xs + bit (p v)
  count_set [] i v h = absurd (omega arith)
  count_set (x ∷ xs) zero v h = omega arith
  count_set (x ∷ xs) (suc i) v h = let ih = count_set xs i v (omega arith) in omega arith

  -- the entry at j moves up into the gap at i, and v takes its place at j
  moved : (xs ys : List A) (i j : ℕ) (v : A) → i < length xs → j ≢ i → count p ys + bit (p (get_or (set xs i (get_or xs j d)) j d))
      ≡ count p (set xs i (get_or xs j d)) + bit (p v)
      → count p ys + bit (p (get_or xs i d)) ≡ count p xs + bit (p v)
  moved xs ys i j v h ne e =
      let up = count_set xs i (get_or xs j d) h in
      let at : bit (p (get_or (set xs i (get_or xs j d)) j d)) ≡ bit (p (get_or xs j d)) = ap (λ (x : A). bit (p x)) (get_or-set_other xs i j (get_or xs j d) d ne) in
      omega arith

  -- the gap's own entry is lost, and v comes in
  sift_count : (fuel : ℕ) (xs : List A) (q : ℕ) (v : A) → q < length xs → count p (sift d fuel xs q v) + bit (p (get_or xs q d)) ≡ count p xs + bit (p v)
  unfolding sift
  sift_count zero xs q v h = count_set xs q v h
  sift_count (suc fuel) xs q v h = ⊎_elim
      (λ (t : ltb (q + q + 2) (length xs) ≡ true).
      let l = ltb-true (q + q + 2) (length xs) t in
      let two : List A = set xs q (get_or xs (q + q + 2) d) in
      rw t (moved xs (sift d fuel two (q + q + 2) v) q (q + q + 2) v h (λ z. omega arith)
      (sift_count fuel two (q + q + 2) v (omega (arith, length-set xs q (get_or xs (q + q + 2) d))))))
      (λ (t : ltb (q + q + 2) (length xs) ≡ false). ⊎_elim
      (λ (u : ltb (q + q + 1) (length xs) ≡ true).
      let l = ltb-true (q + q + 1) (length xs) u in
      let one : List A = set xs q (get_or xs (q + q + 1) d) in
      rw (t, u) (moved xs (set one (q + q + 1) v) q (q + q + 1) v h (λ z. omega arith)
      (count_set one (q + q + 1) v (omega (arith, length-set xs q (get_or xs (q + q + 1) d))))))
      (λ (u : ltb (q + q + 1) (length xs) ≡ false). rw (t, u) (count_set xs q v h))
      (either (ltb (q + q + 1) (length xs))))
      (either (ltb (q + q + 2) (length xs)))

  -- all but the last entry, and the last
  split_last : (xs : List A) (m : ℕ) → length xs ≡ suc m → count p (take m xs) + bit (p (get_or xs m d)) ≡ count p xs
  split_last xs m e =
      let whole : take m xs ++ (get_or xs m d ∷ []) ≡ xs = sym (take-suc xs m d (omega arith)) ∙ ap (λ (k : ℕ). take k xs) (sym e) ∙ take-length xs in
      omega (arith, ap (count p) whole, count_append p (take m xs) (get_or xs m d ∷ []))

  no_entry : (xs : List A) → length xs ≡ 0 → count p xs ≡ 0
  no_entry [] h = refl
  no_entry (x ∷ xs) h = absurd (omega arith)

  pub pop_count : (x : A) (xs : List A) → count p (x ∷ xs) ≡ bit (p x) + count p (after_pop d (x ∷ xs))
  unfolding after_pop
  pop_count x xs =
      let l : List A = x ∷ xs in
      let m : ℕ = length (x ∷ xs) - 1 in
      ⊎_elim
      (λ (t : eqb m 0 ≡ true). let z = eqb-true m 0 t in rw t (omega (arith, no_entry xs (omega arith))))
      (λ (t : eqb m 0 ≡ false).
      let nz = eqb-false m 0 t in
      let pos : 0 < m = omega arith in
      let short : length (take m l) ≡ m = length-take-le m l (omega arith) in
      let top : bit (p (get_or (take m l) 0 d)) ≡ bit (p x) = ap (λ (y : A). bit (p y)) (get_or-take m l 0 d pos) in
      rw t (omega (arith, sift_count m (take m l) 0 (get_or l m d) (omega arith), split_last l m (omega arith))))
      (either (eqb m 0))

pub heap_of_keeps : Keeps heap_of
heap_of_keeps x xs p = pop_count no_edge p x xs

pub queue_of_keeps : Keeps queue_of
queue_of_keeps x xs p = refl

pub pop_of_keeps : (rule : ℕ) → Keeps (pop_of rule)
unfolding waiting_after
pop_of_keeps rule x xs p = ⊎_elim
    (λ (h : eqb rule 2 ≡ true). rw h (queue_of_keeps x xs p))
    (λ (h : eqb rule 2 ≡ false). rw h (heap_of_keeps x xs p))
    (either (eqb rule 2))
