-- Sums over the numbers below n, and members of a list. Assumes nothing.
use Prim.Native.Nat.{ℕ, zero, suc, ◌+◌, ◌≤◌, ◌<◌}
use mathlib.Core.Path.{◌≡◌, refl, sym, ap, ◌∙◌}
use mathlib.Core.Logic.{⊎_elim, ◌≢◌}
use mathlib.Core.Bool.{Bool, true, false, ◌&&◌}
use mathlib.Core.List.{List, [], ◌∷◌}
use native.Mathlib.Omega.{arith}
use lib.Dec.{eqb, ltb}
use borrow.Author.Tests.{eqb-true, eqb-false, eq-eqb, ltb-true}
use lib.ListN.{length}
use Rattle.lists.specs.Lists.{bit, count}
use Rattle.lists.proofs.Bools.{either}
use Rattle.lists.proofs.Counts.{bit_le, bit_true, count_zero}

-- f 0 + .. + f (n - 1)
abbrev pub sum : (ℕ → ℕ) → ℕ → ℕ
sum f zero = 0
sum f (suc n) = f n + sum f n

pub sum_ext : (f g : ℕ → ℕ) → ((x : ℕ) → f x ≡ g x) → (n : ℕ) → sum f n ≡ sum g n
sum_ext f g h zero = refl
sum_ext f g h (suc n) = let ih = sum_ext f g h n in let e = h n in omega arith

pub sum_add : (f g : ℕ → ℕ) (n : ℕ) → sum (λ x. f x + g x) n ≡ sum f n + sum g n
sum_add f g zero = refl
sum_add f g (suc n) = let ih = sum_add f g n in omega arith

pub sum_zero : (n : ℕ) → ◌≡◌ {A = ℕ} (sum (λ x. 0) n) 0
sum_zero zero = refl
sum_zero (suc n) = let ih = sum_zero n in omega arith

both_false : (b : Bool) → bit (b && false) ≡ 0
both_false true = refl
both_false false = refl

-- of the numbers below n only p itself counts
hit : (q : ℕ → Bool) (p x : ℕ) → (eqb x p ≡ true → ⊥) → bit (q x && eqb x p) ≡ 0
hit q p x h = ⊎_elim
    (λ (t : eqb x p ≡ true). absurd (h t))
    (λ (t : eqb x p ≡ false). rw t (both_false (q x)))
    (either (eqb x p))

hit_self : (q : ℕ → Bool) (p x : ℕ) → x ≡ p → bit (q x && eqb x p) ≡ bit (q p)
hit_self q p x e = ap (λ (y : ℕ). bit (q y && eqb y p)) e ∙ ap (λ (b : Bool). bit (q p && b)) (eq-eqb p p refl) ∙ both (q p)
  where
    both : (b : Bool) → bit (b && true) ≡ bit b
    both true = refl
    both false = refl

no_hit : (q : ℕ → Bool) (p n : ℕ) → n ≤ p → sum (λ x. bit (q x && eqb x p)) n ≡ 0
no_hit q p zero h = refl
no_hit q p (suc n) h =
    let ih = no_hit q p n (omega arith) in
    let here = hit q p n (λ t. let e = eqb-true n p t in omega arith) in
    omega arith

pub one_hit : (q : ℕ → Bool) (p n : ℕ) → p < n → sum (λ x. bit (q x && eqb x p)) n ≡ bit (q p)
one_hit q p zero h = absurd (omega arith)
one_hit q p (suc n) h = ⊎_elim
    (λ (t : eqb n p ≡ true).
    let e = eqb-true n p t in
    let rest = no_hit q p n (omega arith) in
    let here = hit_self q p n e in
    omega arith)
    (λ (t : eqb n p ≡ false).
    let e = eqb-false n p t in
    let ne : n ≢ p = e in
    let ih = one_hit q p n (omega arith) in
    let here = hit q p n (λ u. e (eqb-true n p u)) in
    omega arith)
    (either (eqb n p))

-- ---- members
module _ {A : Type 0} where
  -- an x that passes p, in the list: every test that x passes is passed there
  pub record One (p : A → Bool) (xs : List A) : Type 0 where
    pub x : A
    pub passes : p x ≡ true
    pub within : (q : A → Bool) → q x ≡ true → 1 ≤ count q xs

  pub some_one : (p : A → Bool) (xs : List A) → 1 ≤ count p xs → One p xs
  some_one p [] h = absurd (omega arith)
  some_one p (y ∷ ys) h = ⊎_elim
      (λ (t : p y ≡ true). record { x = y; passes = t; within = λ q k. let o : bit (q y) ≡ 1 = ap bit k in omega arith })
      (λ (t : p y ≡ false).
      let z : bit (p y) ≡ 0 = ap bit t in
      let r = some_one p ys (omega arith) in
      record { x = r.x; passes = r.passes; within = λ q k. let m = r.within q k in omega arith })
      (either (p y))

-- a number in a list that passes q
pub member_passes : (q : ℕ → Bool) (i : ℕ) → q i ≡ true → (xs : List ℕ) → 1 ≤ count (eqb i) xs → 1 ≤ count q xs
member_passes q i h [] m = absurd (omega arith)
member_passes q i h (x ∷ xs) m = ⊎_elim
    (λ (t : eqb i x ≡ true). let e = eqb-true i x t in let o : bit (q x) ≡ 1 = ap bit (ap q (sym e) ∙ h) in omega arith)
    (λ (t : eqb i x ≡ false). let z : bit (eqb i x) ≡ 0 = ap bit t in let ih = member_passes q i h xs (omega arith) in omega arith)
    (either (eqb i x))

pub count_length : {A : Type 0} (p : A → Bool) (xs : List A) → count p xs ≤ length xs
count_length p [] = omega arith
count_length p (x ∷ xs) = let ih = count_length p xs in let b = bit_le (p x) in omega arith

-- ---- lists that have each number as often: every test is passed as often
swap_sum : (p : ℕ → Bool) (n : ℕ) (xs : List ℕ) → ((x : ℕ) → 1 ≤ count (eqb x) xs → x < n) → count p xs ≡ sum (λ j. count (λ x. p j && eqb j x) xs) n
swap_sum p n [] h = sym (sum_zero n)
swap_sum p n (x ∷ xs) h =
    let self : bit (eqb x x) ≡ 1 = ap bit (eq-eqb x x refl) in
    let ih = swap_sum p n xs (λ y m. h y (omega arith)) in
    let here = one_hit p x n (h x (omega arith)) in
    let more = sum_add (λ j. bit (p j && eqb j x)) (λ j. count (λ y. p j && eqb j y) xs) n in
    omega arith

either_way : (b : Bool) (j : ℕ) (xs ys : List ℕ) → count (eqb j) xs ≡ count (eqb j) ys → count (λ x. b && eqb j x) xs ≡ count (λ x. b && eqb j x) ys
either_way true j xs ys h = h
either_way false j xs ys h = count_zero (λ x. false) (λ x. refl) xs ∙ sym (count_zero (λ x. false) (λ x. refl) ys)

bounded : (n : ℕ) (xs : List ℕ) → ((i : ℕ) → count (eqb i) xs ≡ bit (ltb i n)) → (x : ℕ) → 1 ≤ count (eqb x) xs → x < n
bounded n xs h x m = let e = h x in ltb-true x n (bit_true {b = ltb x n} (omega arith))

pub recount : (p : ℕ → Bool) (n : ℕ) (xs ys : List ℕ) → ((i : ℕ) → count (eqb i) xs ≡ bit (ltb i n)) → ((i : ℕ) → count (eqb i) ys ≡ bit (ltb i n)) → count p xs
    ≡ count p ys
recount p n xs ys h k =
    swap_sum p n xs (bounded n xs h)
    ∙ sum_ext (λ j. count (λ x. p j && eqb j x) xs) (λ j. count (λ x. p j && eqb j x) ys) (λ j. either_way (p j) j xs ys (h j ∙ sym (k j))) n
    ∙ sym (swap_sum p n ys (bounded n ys k))
