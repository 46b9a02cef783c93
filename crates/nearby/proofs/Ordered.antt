-- Lists of numbers in a strict order: what leaving out and inserting do to them, and that their members settle them.
-- Assumes nothing.
use Prim.Native.Nat.{ℕ, zero, suc, ◌+◌, ◌≤◌, ◌<◌}
use mathlib.Core.Path.{◌≡◌, refl, sym, ap, ◌∙◌}
use mathlib.Core.Logic.{⊎_elim}
use mathlib.Core.Bool.{Bool, true, false, cond}
use mathlib.Core.List.{List, [], ◌∷◌}
use native.Mathlib.Omega.{arith}
use lib.Dec.{eqb, ltb}
use borrow.Author.Tests.{eqb-true, eqb-false, eq-eqb, lt-ltb, ltb-true}
use Rattle.sorting.specs.Insertion.{insert_before}
use Rattle.lists.specs.Lists.{bit, count}
use Rattle.lists.proofs.Bools.{either, not-true, true_not_false}
use Rattle.lists.specs.Members.{only, In}
use Rattle.lists.proofs.Members.{in_head, in_cases, only_count, only_none, only_fewer}
use Rattle.sorting.proofs.Counting.{insert_count}
use Rattle.nearby.specs.Inner.Narrow.{insert_passing}

-- ---- in order

-- a strict order of all numbers
pub record Strict (less : ℕ → ℕ → Bool) : Type 0 where
  pub irreflexive : (i : ℕ) → less i i ≡ false
  pub transitive : (i j k : ℕ) → less i j ≡ true → less j k ≡ true → less i k ≡ true
  pub connected : (i j : ℕ) → less i j ≡ false → less j i ≡ false → i ≡ j

-- each number comes before all that follow
abbrev pub Sorted : (ℕ → ℕ → Bool) → List ℕ → Type 0
Sorted less [] = Unit {0}
Sorted less (x ∷ xs) = ((k : ℕ) → In k xs → less x k ≡ true) × Sorted less xs

pub sorted_only : (less : ℕ → ℕ → Bool) (test : ℕ → Bool) (xs : List ℕ) → Sorted less xs → Sorted less (only test xs)
unfolding only
sorted_only less test [] s = tt
sorted_only less test (x ∷ xs) s = go (test x) (sorted_only less test xs s.1)
  where
    go : (b : Bool) → Sorted less (only test xs) → Sorted less (cond b (x ∷ only test xs) (only test xs))
    go true ih = (λ k h. s.0 k (only_fewer test k xs h), ih)
    go false ih = ih

module _ {less : ℕ → ℕ → Bool} where
  module _ (strict : Strict less) where
    -- whatever is not less comes after
    after : (v x : ℕ) → (v ≡ x → ⊥) → less v x ≡ false → less x v ≡ true
    after v x ne f = ⊎_elim (λ (t : less x v ≡ true). t) (λ (t : less x v ≡ false). absurd (ne (strict.connected v x f t))) (either (less x v))

    pub sorted_insert : (v : ℕ) (xs : List ℕ) → count (eqb v) xs ≡ 0 → Sorted less xs → Sorted less (insert_before (less v) v xs)
    unfolding insert_before
    sorted_insert v [] n s = (λ k h. absurd (omega arith), tt)
    sorted_insert v (x ∷ xs) n s = go (less v x) refl (sorted_insert v xs (omega arith) s.1)
      where
        go : (b : Bool) → less v x ≡ b → Sorted less (insert_before (less v) v xs) → Sorted less (cond b (v ∷ x ∷ xs) (x ∷ insert_before (less v) v xs))
        go true e ih = (in_cases (λ k. less v k ≡ true) x xs e (λ k h. strict.transitive v x k e (s.0 k h)), s)
        go false e ih = (
          λ k h. in_cases (λ j. less x j ≡ true) v xs (after v x (λ q. let z = eq-eqb v x q in let o : bit (eqb v x) ≡ 1 = ap bit z in omega arith) e) s.0 k
              (let c = insert_count (eqb k) (less v) v xs in omega arith),
          ih,
        )

    -- a list in order is settled by its members
    pub sorted_unique : (xs ys : List ℕ) → Sorted less xs → Sorted less ys → ((k : ℕ) → count (eqb k) xs ≡ count (eqb k) ys) → xs ≡ ys
    sorted_unique [] [] s t e = refl
    sorted_unique [] (y ∷ ys) s t e = absurd (let h = in_head y ys in let c = e y in omega arith)
    sorted_unique (x ∷ xs) [] s t e = absurd (let h = in_head x xs in let c = e x in omega arith)
    sorted_unique (x ∷ xs) (y ∷ ys) s t e =
        let q : x ≡ y = ⊎_elim (λ (b : eqb x y ≡ true). eqb-true x y b) (λ (b : eqb x y ≡ false). absurd (crossed (eqb-false x y b))) (either (eqb x y)) in
        let rest : xs ≡ ys = sorted_unique xs ys s.1 t.1
        (λ k. let c = e k in let b : bit (eqb k x) ≡ bit (eqb k y) = ap (λ (z : ℕ). bit (eqb k z)) q in omega arith) in
        ap (λ (z : ℕ). z ∷ xs) q ∙ ap (λ (zs : List ℕ). y ∷ zs) rest
      where
        -- if the first ones differed, each would come before the other
        crossed : (x ≡ y → ⊥) → ⊥
        crossed ne =
            let xy : eqb x y ≡ false = not-true (λ b. ne (eqb-true x y b)) in
            let yx : eqb y x ≡ false = not-true (λ b. ne (sym (eqb-true y x b))) in
            let zx : bit (eqb x y) ≡ 0 = ap bit xy in
            let zy : bit (eqb y x) ≡ 0 = ap bit yx in
            let hx = in_head x xs in
            let hy = in_head y ys in
            let cx = e x in
            let cy = e y in
            true_not_false (strict.transitive x y x (s.0 y (omega arith)) (t.0 x (omega arith))) (strict.irreflexive x)

    -- ---- those that pass a test, inserted in turn
    module _ (test : ℕ → Bool) where
      pub insert_all_sorted : (js xs : List ℕ) → Sorted less xs → ((k : ℕ) → count (eqb k) xs + count (eqb k) js ≤ 1)
          → Sorted less (insert_passing less test xs js)
      unfolding insert_passing
      insert_all_sorted [] xs s once = s
      insert_all_sorted (j ∷ js) xs s once = go (test j) (insert_all_sorted js xs s (λ k. let o = once k in omega arith)) (
          insert_all_sorted js (insert_before (less j) j xs) (
          sorted_insert j xs (let o = once j in let h = in_head j js in omega arith) s
          ) (λ k. let o = once k in let c = insert_count (eqb k) (less j) j xs in omega arith)
          )
        where
          go : (b : Bool) → Sorted less (insert_passing less test xs js) → Sorted less (insert_passing less test (insert_before (less j) j xs) js)
              → Sorted less (insert_passing less test (cond b (insert_before (less j) j xs) xs) js)
          go true p q = q
          go false p q = p

      pub insert_all_count : (k : ℕ) → test k ≡ true → (js xs : List ℕ) → count (eqb k) (insert_passing less test xs js) ≡ count (eqb k) xs + count (eqb k) js
      unfolding insert_passing
      insert_all_count k t [] xs = omega arith
      insert_all_count k t (j ∷ js) xs = go (test j) refl (insert_all_count k t js xs) (insert_all_count k t js (insert_before (less j) j xs))
        where
          go : (b : Bool) → test j ≡ b → count (eqb k) (insert_passing less test xs js) ≡ count (eqb k) xs + count (eqb k) js
              → count (eqb k) (insert_passing less test (insert_before (less j) j xs) js) ≡ count (eqb k) (insert_before (less j) j xs) + count (eqb k) js
              → count (eqb k) (insert_passing less test (cond b (insert_before (less j) j xs) xs) js) ≡ count (eqb k) xs + count (eqb k) (j ∷ js)
          go true e p q = let c = insert_count (eqb k) (less j) j xs in omega arith
          go false e p q =
              let z : eqb k j ≡ false = not-true (λ b. true_not_false t (ap test (eqb-true k j b) ∙ e)) in
              let o : bit (eqb k j) ≡ 0 = ap bit z in
              omega arith

      pub insert_all_none : (k : ℕ) → test k ≡ false → (js xs : List ℕ) → count (eqb k) (insert_passing less test xs js) ≡ count (eqb k) xs
      unfolding insert_passing
      insert_all_none k t [] xs = refl
      insert_all_none k t (j ∷ js) xs = go (test j) refl (insert_all_none k t js xs) (insert_all_none k t js (insert_before (less j) j xs))
        where
          go : (b : Bool) → test j ≡ b → count (eqb k) (insert_passing less test xs js) ≡ count (eqb k) xs
              → count (eqb k) (insert_passing less test (insert_before (less j) j xs) js) ≡ count (eqb k) (insert_before (less j) j xs)
              → count (eqb k) (insert_passing less test (cond b (insert_before (less j) j xs) xs) js) ≡ count (eqb k) xs
          go true e p q =
              let z : eqb k j ≡ false = not-true (λ b. true_not_false e (ap test (sym (eqb-true k j b)) ∙ t)) in
              let o : bit (eqb k j) ≡ 0 = ap bit z in
              let c = insert_count (eqb k) (less j) j xs in omega arith
          go false e p q = p

      -- of the numbers below n in order those that pass are also what insertion makes of any list, without repetitions, that has them all
      pub insert_all_is : (n : ℕ) (xs js : List ℕ) → Sorted less xs → ((k : ℕ) → count (eqb k) xs ≡ bit (ltb k n)) → ((k : ℕ) → count (eqb k) js ≤ 1)
          → ((k : ℕ) → In k js → k < n)
          → ((k : ℕ) → k < n → test k ≡ true → In k js) → insert_passing less test [] js ≡ only test xs
      insert_all_is n xs js s counts once below complete =
          sorted_unique (insert_passing less test [] js) (only test xs) (insert_all_sorted js [] tt (λ k. let o = once k in omega arith))
          (sorted_only less test xs s)
          (λ k. ⊎_elim (yes k) (λ (t : test k ≡ false). insert_all_none k t js [] ∙ sym (only_none test k t xs)) (either (test k)))
        where
          yes : (k : ℕ) → test k ≡ true → count (eqb k) (insert_passing less test [] js) ≡ count (eqb k) (only test xs)
          yes k t = let a = insert_all_count k t js [] in let b = only_count test k t xs in let e = same in omega arith
            where
              same : count (eqb k) js ≡ count (eqb k) xs
              same = ⊎_elim
                  (λ (b : ltb k n ≡ true). let z : bit (ltb k n)
                  ≡ 1 = ap bit b in let c = counts k in let o = once k in let i = complete k (ltb-true k n b) t in omega arith)
                  (λ (b : ltb k n ≡ false). let z : bit (ltb k n)
                  ≡ 0 = ap bit b in let c = counts k in none (count (eqb k) js) (λ h. true_not_false (lt-ltb k n (below k h)) b) ∙ sym (c ∙ z))
                  (either (ltb k n))
                where
                  none : (m : ℕ) → (1 ≤ m → ⊥) → m ≡ 0
                  none zero f = refl
                  none (suc m) f = absurd (f (omega arith))
