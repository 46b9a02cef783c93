-- Laws of counting, and that a list of numbers below n, each at most once, is no longer than n. Assumes nothing.
use Prim.Native.Nat.{ℕ, zero, suc, ◌+◌, ◌≤◌, ◌<◌}
use mathlib.Core.Path.{◌≡◌, refl}
use mathlib.Core.Logic.{⊎_elim}
use mathlib.Core.Bool.{Bool, true, false}
use mathlib.Core.List.{List, [], ◌∷◌, ◌++◌}
use native.Mathlib.Omega.{arith}
use lib.Dec.{eqb, ltb}
use borrow.Author.Tests.{ltb-true, ltb-false, lt-ltb, le-ltb, eqb-true, eqb-false, eq-eqb, ne_eqb}
use lib.ListN.{length}
use Rattle.lists.specs.Lists.{bit, count, any}
use Rattle.lists.specs.Members.{Below}
use Rattle.lists.proofs.Bools.{either}

pub bit_le : (b : Bool) → bit b ≤ 1
bit_le true = omega arith
bit_le false = omega arith

pub bit_true : {b : Bool} → 1 ≤ bit b → b ≡ true
bit_true {b = true} h = refl
bit_true {b = false} h = absurd (omega arith)

module _ {A : Type 0} where
  pub count_append : (p : A → Bool) (xs ys : List A) → count p (xs ++ ys) ≡ count p xs + count p ys
  count_append p [] ys = omega arith
  count_append p (x ∷ xs) ys = let ih = count_append p xs ys in omega arith

  pub any_true : (p : A → Bool) (xs : List A) → any p xs ≡ true → 1 ≤ count p xs
  unfolding any
  any_true p xs h = ltb-true 0 (count p xs) h

  pub any_false : (p : A → Bool) (xs : List A) → any p xs ≡ false → count p xs ≡ 0
  unfolding any
  any_false p xs h = let k = ltb-false 0 (count p xs) h in omega arith

  pub true_any : (p : A → Bool) (xs : List A) → 1 ≤ count p xs → any p xs ≡ true
  unfolding any
  true_any p xs h = lt-ltb 0 (count p xs) h

  pub false_any : (p : A → Bool) (xs : List A) → count p xs ≡ 0 → any p xs ≡ false
  unfolding any
  false_any p xs h = let k : count p xs ≤ 0 = omega arith in le-ltb 0 (count p xs) k

  -- where at most one passes, how many and whether some is the same number
  pub any_bit : (p : A → Bool) (xs : List A) → count p xs ≤ 1 → bit (any p xs) ≡ count p xs
  any_bit p xs h = ⊎_elim
      (λ (t : any p xs ≡ true). let k = any_true p xs t in let e : count p xs ≡ 1 = omega arith in rw (t, e))
      (λ (t : any p xs ≡ false). rw (t, any_false p xs t))
      (either (any p xs))

  pub count_mono : (p q : A → Bool) → ((x : A) → p x ≡ true → q x ≡ true) → (xs : List A) → count p xs ≤ count q xs
  count_mono p q h [] = omega arith
  count_mono p q h (x ∷ xs) =
      let ih = count_mono p q h xs in
      let one : bit (p x) ≤ bit (q x) = ⊎_elim
      (λ (t : p x ≡ true). rw (t, h x t) (omega arith))
      (λ (t : p x ≡ false). rw t (omega arith))
      (either (p x)) in
      omega arith

  pub count_zero : (p : A → Bool) → ((x : A) → p x ≡ false) → (xs : List A) → count p xs ≡ 0
  count_zero p h [] = refl
  count_zero p h (x ∷ xs) = let ih = count_zero p h xs in rw h (omega arith)

  pub count_ext : (p q : A → Bool) → ((x : A) → p x ≡ q x) → (xs : List A) → count p xs ≡ count q xs
  count_ext p q h [] = refl
  count_ext p q h (x ∷ xs) = let ih = count_ext p q h xs in rw h (omega arith)

  pub count_all : (xs : List A) → count (λ (x : A). true) xs ≡ length xs
  count_all [] = refl
  count_all (x ∷ xs) = let ih = count_all xs in omega arith

-- ---- a list of numbers below n, each at most once, is no longer than n
pub upto : (n : ℕ) (x : ℕ) → bit (ltb x (suc n)) ≡ bit (ltb x n) + bit (eqb n x)
upto n x = ⊎_elim
    (λ (t : ltb x n ≡ true). let l = ltb-true x n t in let ne : n ≡ x
    → ⊥ = λ (q : n ≡ x). omega arith in let g : x < suc n = omega arith in rw (t, lt-ltb x (suc n) g, ne_eqb n x ne))
    (λ (t : ltb x n ≡ false). ⊎_elim
    (λ (u : eqb n x ≡ true). let e = eqb-true n x u in let g : x < suc n = omega arith in rw (t, u, lt-ltb x (suc n) g))
    (λ (u : eqb n x ≡ false). let l = ltb-false x n t in let ne = eqb-false n x u in let g : suc n ≤ x = omega arith in rw (t, u, le-ltb x (suc n) g))
    (either (eqb n x)))
    (either (ltb x n))

split_upto : (n : ℕ) (xs : List ℕ) → count (λ (x : ℕ). ltb x (suc n)) xs ≡ count (λ (x : ℕ). ltb x n) xs + count (eqb n) xs
split_upto n [] = refl
split_upto n (x ∷ xs) = let ih = split_upto n xs in let here = upto n x in omega arith

few_below : (xs : List ℕ) → ((x : ℕ) → count (eqb x) xs ≤ 1) → (n : ℕ) → count (λ (x : ℕ). ltb x n) xs ≤ n
few_below xs h zero = let z = count_zero (λ (x : ℕ). ltb x 0) (λ (x : ℕ). le-ltb x 0 (omega arith)) xs in omega arith
few_below xs h (suc n) = let ih = few_below xs h n in let k = h n in let s = split_upto n xs in omega arith

all_below_lem : (n : ℕ) (xs : List ℕ) → Below n xs → count (λ (x : ℕ). ltb x n) xs ≡ length xs
all_below_lem n [] h = refl
all_below_lem n (x ∷ xs) h =
    let here : x < n = h x (rw (eq-eqb x x refl) (omega arith)) in
    let ih = all_below_lem n xs (λ (y : ℕ) (m : 1 ≤ count (eqb y) xs). h y (omega arith)) in
    rw (lt-ltb x n here) (omega arith)

pub pigeons : (n : ℕ) (xs : List ℕ) → ((x : ℕ) → count (eqb x) xs ≤ 1) → Below n xs → length xs ≤ n
pigeons n xs once below = let a = all_below_lem n xs below in let b = few_below xs once n in omega arith
