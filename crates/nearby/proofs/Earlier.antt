-- The order in which points are looked through is strict, and the neighbours of a place stand in it. Assumes nothing.
use Prim.Native.Nat.{ℕ, zero, suc, ◌+◌, ◌≤◌, ◌<◌}
use mathlib.Core.Path.{◌≡◌, refl, sym, ap, ◌∙◌, subst}
use mathlib.Core.Logic.{◌⊎◌, inl, inr, ⊎_elim}
use mathlib.Core.Bool.{Bool, true, false, not, ◌&&◌, ◌||◌}
use mathlib.Core.List.{List, [], ◌∷◌, ◌++◌}
use native.Mathlib.Omega.{arith}
use lib.Dec.{eqb, ltb}
use lib.Ieee.{Float}
use borrow.Author.Tests.{ltb-true, ltb-false, lt-ltb, le-ltb, eqb-true, eqb-false, eq-eqb, ne_eqb}
use Rattle.vector.specs.declared.Point3f.{Point3f}
use Rattle.lists.specs.Lists.{up_from, bit, count}
use Rattle.sorting.specs.Insertion.{insert_before}
use Rattle.grid.specs.declared.SpatialGrid.{SpatialGrid}
use Rattle.grid.specs.declared.Cell.{Cell}
use Rattle.grid.specs.Grid.{cell_of, before, precedes_by_cell, by_cell, range_of, keep, neighbors}
use Rattle.grid.specs.Inner.Looking.{order_of}
use Rattle.grid.specs.Inner.Index.{earlier}
use Rattle.lists.proofs.Members.{up_below, only_all}
use Rattle.grid.proofs.Sequence.{by_cell_below, snoc_up, insert_alike, earlier_last}
use Rattle.lists.proofs.Bools.{either, true_not_false}
use Rattle.lists.proofs.Counts.{upto}
use Rattle.lists.specs.Members.{only}
use Rattle.sorting.proofs.Counting.{insert_count}
use Rattle.nearby.specs.Inner.Narrow.{cell_at, in_cells}
use Rattle.nearby.proofs.Ordered.{Strict, Sorted, sorted_insert}

-- ---- orders by keys

-- an order in which those of which none comes first are the same in some sense
record Order {A : Type 0} (same : A → A → Type 0) (less : A → A → Bool) : Type 0 where
  irreflexive : (a : A) → less a a ≡ false
  transitive : (a b c : A) → less a b ≡ true → less b c ≡ true → less a c ≡ true
  connected : (a b : A) → less a b ≡ false → less b a ≡ false → same a b

module _ {A : Type 0} (key : A → ℕ) where
  key_order : Order (λ (a b : A). key a ≡ key b) (λ (a b : A). ltb (key a) (key b))
  key_order = record {
    irreflexive = λ a. le-ltb (key a) (key a) (omega arith);
    transitive = λ a b c p q. lt-ltb (key a) (key c) (omega (arith, ltb-true (key a) (key b) p, ltb-true (key b) (key c) q));
    connected = λ a b p q. omega (arith, ltb-false (key a) (key b) p, ltb-false (key b) (key a) q);
  }

  module _ (rest : A → A → Bool) where
    -- by the key, and then by the rest
    abbrev by_key : A → A → Bool
    by_key a b = ltb (key a) (key b) || (eqb (key a) (key b) && rest a b)

    key_cases : (a b : A) → by_key a b ≡ true → (key a < key b) ⊎ ((key a ≡ key b) × (rest a b ≡ true))
    key_cases a b h = go (ltb (key a) (key b)) refl (eqb (key a) (key b)) refl h
      where
        go : (l : Bool) → ltb (key a) (key b) ≡ l → (e : Bool) → eqb (key a) (key b) ≡ e → (l || (e && rest a b)) ≡ true
            → (key a < key b) ⊎ ((key a ≡ key b) × (rest a b ≡ true))
        go true p e q h = inl (ltb-true (key a) (key b) p)
        go false p true q h = inr (eqb-true (key a) (key b) q, h)
        go false p false q h = absurd (true_not_false refl (sym h))

    key_less : (a b : A) → key a < key b → by_key a b ≡ true
    key_less a b h = rw (lt-ltb (key a) (key b) h)

    key_even : (a b : A) → key a ≡ key b → by_key a b ≡ rest a b
    key_even a b h = let l : key b ≤ key a = omega arith in rw (le-ltb (key a) (key b) l, eq-eqb (key a) (key b) h)

    then_order : {same : A → A → Type 0} → Order same rest → Order (λ (a b : A). (key a ≡ key b) × same a b) by_key
    then_order o = record {
      irreflexive = λ a. key_even a a refl ∙ o.irreflexive a;
      transitive = λ a b c p q. ⊎_elim
          (λ (k : key a < key b). ⊎_elim (λ (l : key b < key c). key_less a c (omega arith))
          (λ (l : (key b ≡ key c) × (rest b c ≡ true)). key_less a c (omega (arith, l.0))) (key_cases b c q))
          (λ (k : (key a ≡ key b) × (rest a b ≡ true)). ⊎_elim
          (λ (l : key b < key c). key_less a c (omega (arith, k.0)))
          (λ (l : (key b ≡ key c) × (rest b c ≡ true)). key_even a c (k.0 ∙ l.0) ∙ o.transitive a b c k.1 l.1)
          (key_cases b c q))
          (key_cases a b p);
      connected = λ a b p q. ⊎_elim
          (λ (k : key a < key b). absurd (true_not_false (key_less a b k) p))
          (λ (k : key b ≤ key a). ⊎_elim
          (λ (l : key b < key a). absurd (true_not_false (key_less b a l) q))
          (λ (l : key a ≤ key b). let e : key a ≡ key b = omega arith in (e, o.connected a b (sym (key_even a b e) ∙ p) (sym (key_even b a (sym e)) ∙ q)))
          (above (key b) (key a)))
          (above (key a) (key b));
    }
      where
        above : (m n : ℕ) → (m < n) ⊎ (n ≤ m)
        above m n = ⊎_elim (λ (t : ltb m n ≡ true). inl (ltb-true m n t)) (λ (t : ltb m n ≡ false). inr (ltb-false m n t)) (either (ltb m n))

-- ---- cells
before_order : Order (λ (c d : Cell). (c.x ≡ d.x) × ((c.y ≡ d.y) × (c.z ≡ d.z))) before
unfolding before
before_order =
    then_order (λ (c : Cell). c.x) (λ (c d : Cell). ltb c.y d.y || (eqb c.y d.y && ltb c.z d.z))
    (then_order (λ (c : Cell). c.y) (λ (c d : Cell). ltb c.z d.z) (key_order (λ (c : Cell). c.z)))

cell_same : (c d : Cell) → before c d ≡ false → before d c ≡ false → c ≡ d
cell_same c d p q =
    let e = before_order.connected c d p q in
    ap (λ (v : ℕ). record { x = v; y = c.y; z = c.z }) e.0 ∙ ap (λ (v : ℕ). record { x = d.x; y = v; z = c.z }) e.1.0 ∙ ap
    (λ (v : ℕ). record { x = d.x; y = d.y; z = v }) e.1.1

-- ---- points

-- an order in which several may stand level
record Levels (first : ℕ → ℕ → Bool) : Type 0 where
  irreflexive : (i : ℕ) → first i i ≡ false
  transitive : (i j k : ℕ) → first i j ≡ true → first j k ≡ true → first i k ≡ true
  level : (i j : ℕ) → first i j ≡ false → first j i ≡ false → (k : ℕ) → (first i k ≡ first j k) × (first k i ≡ first k j)

cell_levels : (indexed : Bool) (cell : ℕ → Cell) → Levels (λ (i j : ℕ). indexed && before (cell i) (cell j))
cell_levels true cell = record {
  irreflexive = λ i. before_order.irreflexive (cell i);
  transitive = λ i j k p q. before_order.transitive (cell i) (cell j) (cell k) p q;
  level = λ i j p q k. let e = cell_same (cell i) (cell j) p q in (ap (λ (c : Cell). before c (cell k)) e, ap (λ (c : Cell). before (cell k) c) e);
}
cell_levels false cell = record { irreflexive = λ i. refl; transitive = λ i j k p q. absurd (true_not_false p refl); level = λ i j p q k. (refl, refl) }

module _ {first : ℕ → ℕ → Bool} (o : Levels first) where
  -- those that stand level by number
  abbrev numbered : ℕ → ℕ → Bool
  numbered i j = first i j || (not (first j i) && ltb i j)

  numbered_cases : (i j : ℕ) → numbered i j ≡ true → (first i j ≡ true) ⊎ ((first i j ≡ false) × ((first j i ≡ false) × (i < j)))
  numbered_cases i j h = go (first i j) refl (first j i) refl h
    where
      go : (a : Bool) → first i j ≡ a → (b : Bool) → first j i ≡ b → (a || (not b && ltb i j)) ≡ true
          → (first i j ≡ true) ⊎ ((first i j ≡ false) × ((first j i ≡ false) × (i < j)))
      go true p b q h = inl p
      go false p true q h = absurd (true_not_false refl (sym h))
      go false p false q h = inr (p, (q, ltb-true i j h))

  numbered_first : (i j : ℕ) → first i j ≡ true → numbered i j ≡ true
  numbered_first i j h = rw h

  numbered_level : (i j : ℕ) → first i j ≡ false → first j i ≡ false → numbered i j ≡ ltb i j
  numbered_level i j p q = rw (p, q)

  numbered_strict : Strict numbered
  numbered_strict = record {
    irreflexive = λ i. numbered_level i i (o.irreflexive i) (o.irreflexive i) ∙ le-ltb i i (omega arith);
    transitive = λ i j k p q. ⊎_elim
        (λ (a : first i j ≡ true). ⊎_elim
        (λ (b : first j k ≡ true). numbered_first i k (o.transitive i j k a b))
        (λ (b : (first j k ≡ false) × ((first k j ≡ false) × (j < k))). numbered_first i k (sym (o.level j k b.0 b.1.0 i).1 ∙ a))
        (numbered_cases j k q))
        (λ (a : (first i j ≡ false) × ((first j i ≡ false) × (i < j))). ⊎_elim
        (λ (b : first j k ≡ true). numbered_first i k ((o.level i j a.0 a.1.0 k).0 ∙ b))
        (λ (b : (first j k ≡ false) × ((first k j ≡ false) × (j < k))).
        let l = o.level i j a.0 a.1.0 k in
        numbered_level i k (l.0 ∙ b.0) (l.1 ∙ b.1.0) ∙ lt-ltb i k (omega (arith, a.1.1, b.1.1)))
        (numbered_cases j k q))
        (numbered_cases i j p);
    connected = λ i j p q.
        let a = not_first i j p in
        let b = not_first j i q in
        omega (arith, ltb-false i j (sym (numbered_level i j a b) ∙ p), ltb-false j i (sym (numbered_level j i b a) ∙ q));
  }
    where
      not_first : (i j : ℕ) → numbered i j ≡ false → first i j ≡ false
      not_first i j p = ⊎_elim (λ (t : first i j ≡ true). absurd (true_not_false (numbered_first i j t) p)) (λ (t : first i j ≡ false). t) (either (first i j))

pub earlier_strict : (indexed : Bool) (cell : ℕ → Cell) → Strict (earlier indexed cell)
unfolding earlier
earlier_strict indexed cell = numbered_strict (cell_levels indexed cell)

-- ---- all numbers below n in order

-- each inserted in turn
in_order : (ℕ → ℕ → Bool) → ℕ → List ℕ
in_order less zero = []
in_order less (suc m) = insert_before (less m) m (in_order less m)

eqb_swap : (a b : ℕ) → eqb a b ≡ eqb b a
eqb_swap a b = ⊎_elim
    (λ (t : eqb a b ≡ true). t ∙ sym (eq-eqb b a (sym (eqb-true a b t))))
    (λ (t : eqb a b ≡ false). t ∙ sym (ne_eqb b a (λ q. eqb-false a b t (sym q))))
    (either (eqb a b))

module _ (less : ℕ → ℕ → Bool) where
  order_count : (n k : ℕ) → count (eqb k) (in_order less n) ≡ bit (ltb k n)
  unfolding in_order
  order_count zero k = let z : ltb k 0 ≡ false = le-ltb k 0 (omega arith) in rw z
  order_count (suc m) k = let ih = order_count m k in let u = upto m k in let e : bit (eqb k m)
      ≡ bit (eqb m k) = ap bit (eqb_swap k m) in let c = insert_count (eqb k) (less m) m (in_order less m) in omega arith

  order_sorted : Strict less → (n : ℕ) → Sorted less (in_order less n)
  unfolding in_order
  order_sorted s zero = tt
  order_sorted s (suc m) = sorted_insert s m (in_order less m) (order_count m m ∙ ap bit (le-ltb m m (omega arith))) (order_sorted s m)

insert_never : (v : ℕ) (xs : List ℕ) → insert_before (λ (j : ℕ). false) v xs ≡ xs ++ (v ∷ [])
unfolding insert_before
insert_never v [] = refl
insert_never v (x ∷ xs) = ap (λ (l : List ℕ). x ∷ l) (insert_never v xs)

-- the order of the definition
module _ (g : SpatialGrid) (pts : List Float) where
  by_cell_is : (m : ℕ) → by_cell g pts m ≡ in_order (earlier true (cell_at g pts)) m
  unfolding by_cell in_order precedes_by_cell
  by_cell_is zero = refl
  by_cell_is (suc m) =
      insert_alike (precedes_by_cell g pts m) (earlier true (cell_at g pts) m) m m (by_cell g pts m) (by_cell_below g pts m m (omega arith))
      (λ (j : ℕ) (l : j < m). sym (earlier_last (cell_at g pts) m j l))
      ∙ ap (insert_before (earlier true (cell_at g pts) m) m) (by_cell_is m)

  by_number_is : (m : ℕ) → up_from 0 m ≡ in_order (earlier false (cell_at g pts)) m
  unfolding in_order earlier up_from
  by_number_is zero = refl
  by_number_is (suc m) =
      let z : 0 + m ≡ m = omega arith in
      sym (snoc_up 0 m)
      ∙ ap (λ (k : ℕ). up_from 0 m ++ (k ∷ [])) z
      ∙ sym (insert_never m (up_from 0 m))
      ∙ insert_alike (λ (j : ℕ). false) (earlier false (cell_at g pts) m) m m (up_from 0 m) (up_below m 0 m (omega arith))
      (λ (j : ℕ) (l : j < m). sym (le-ltb m j (omega arith)))
      ∙ ap (insert_before (earlier false (cell_at g pts) m) m) (by_number_is m)

  order_is : (indexed : Bool) (n : ℕ) → order_of indexed g pts n ≡ in_order (earlier indexed (cell_at g pts)) n
  unfolding order_of
  order_is true n = by_cell_is n
  order_is false n = by_number_is n

-- ---- the neighbours
keep_only : (g : SpatialGrid) (pts : List Float) (range : ℕ) (c : Cell) (js : List ℕ) → keep g pts range c js ≡ only (in_cells true g pts range c) js
unfolding keep only in_cells
keep_only g pts range c [] = refl
keep_only g pts range c (j ∷ js) = rw (keep_only g pts range c js)

pub neighbors_only : (indexed : Bool) (g : SpatialGrid) (pts : List Float) (n : ℕ) (p : Point3f) (r : Float)
    → neighbors indexed g pts n p r ≡ only (in_cells indexed g pts (range_of g r) (cell_of g p)) (order_of indexed g pts n)
unfolding neighbors order_of in_cells
neighbors_only true g pts n p r = keep_only g pts (range_of g r) (cell_of g p) (by_cell g pts n)
neighbors_only false g pts n p r = sym (only_all (in_cells false g pts (range_of g r) (cell_of g p)) (λ k. refl) (up_from 0 n))

pub order_of_sorted : (indexed : Bool) (g : SpatialGrid) (pts : List Float) (n : ℕ) → Sorted (earlier indexed (cell_at g pts)) (order_of indexed g pts n)
order_of_sorted indexed g pts n =
    subst (λ (xs : List ℕ). Sorted (earlier indexed (cell_at g pts)) xs) (sym (order_is g pts indexed n))
    (order_sorted (earlier indexed (cell_at g pts)) (earlier_strict indexed (cell_at g pts)) n)

pub order_of_count : (indexed : Bool) (g : SpatialGrid) (pts : List Float) (n k : ℕ) → count (eqb k) (order_of indexed g pts n) ≡ bit (ltb k n)
order_of_count indexed g pts n k = ap (count (eqb k)) (order_is g pts indexed n) ∙ order_count (earlier indexed (cell_at g pts)) n k
