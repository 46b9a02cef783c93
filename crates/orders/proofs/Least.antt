-- The greedy order: it is an order of the faces, and no order has fewer faces that share no edge with an earlier one.
-- Assumes nothing.
use Prim.Native.Nat.{ℕ, zero, suc, ◌+◌, ◌≤◌, ◌<◌}
use mathlib.Core.Path.{◌≡◌, refl, sym, ap, subst, ◌∙◌}
use mathlib.Core.Logic.{◌⊎◌, inl, inr, ⊎_elim}
use mathlib.Core.Bool.{Bool, true, false, not, ◌&&◌}
use mathlib.Core.List.{List, [], ◌∷◌, ◌++◌}
use native.Mathlib.Numerals.{add-one}
use native.Mathlib.Omega.{arith}
use lib.Dec.{eqb, ltb}
use borrow.Author.Tests.{not-false, ltb-false, eqb-true, eqb-false, eq-eqb, ne_eqb, ltb-true, lt-ltb}
use lib.ListN.{length}
use Rattle.lists.specs.Lists.{bit, count, any, up_from}
use Rattle.patch.specs.Lay.{Face}
use Rattle.lists.proofs.Bools.{either, not-true, true_not_false}
use Rattle.lists.proofs.Counts.{bit_le, bit_true, any_true, any_false, any_bit, count_append, upto}
use Rattle.orders.specs.Order.{neighbours, joined, first_or, without, greedy_from, loose, Permutes}
use Rattle.orders.proofs.Sums.{some_one, member_passes}
use Rattle.orders.proofs.Points.{neighbours_sym}
use Rattle.orders.proofs.Totals.{loose_in}

-- ---- the face picked
eqb_swap : (i j : ℕ) → bit (eqb i j) ≡ bit (eqb j i)
eqb_swap i j = ⊎_elim
    (λ (t : eqb i j ≡ true). ap bit (t ∙ sym (eq-eqb j i (sym (eqb-true i j t)))))
    (λ (t : eqb i j ≡ false). ap bit (t ∙ sym (ne_eqb j i (λ e. eqb-false i j t (sym e)))))
    (either (eqb i j))

pub numbers_once : (m k j : ℕ) → count (eqb j) (up_from k m) + bit (ltb j k) ≡ bit (ltb j (k + m))
unfolding up_from
numbers_once zero k j = let e : k ≡ k + 0 = omega arith in let f : bit (ltb j k) ≡ bit (ltb j (k + 0)) = ap (λ (z : ℕ). bit (ltb j z)) e in omega arith
numbers_once (suc m) k j =
    let ih = numbers_once m (k + 1) j in
    let u = upto k j in
    let s = eqb_swap j k in
    let e : (k + 1) + m ≡ k + suc m = omega arith in
    let f : bit (ltb j ((k + 1) + m)) ≡ bit (ltb j (k + suc m)) = ap (λ (z : ℕ). bit (ltb j z)) e in
    let g : bit (ltb j (k + 1)) ≡ bit (ltb j (suc k)) = ap (λ (z : ℕ). bit (ltb j z)) (add-one k) in
    omega arith

module _ (p : ℕ → Bool) (d x : ℕ) (xs : List ℕ) where
  pub first_yes : p x ≡ true → first_or p d (x ∷ xs) ≡ x
  unfolding first_or
  first_yes h = rw (h, first_or)

  pub first_no : p x ≡ false → first_or p d (x ∷ xs) ≡ first_or p d xs
  unfolding first_or
  first_no h = rw (h, first_or)

-- it is d, or one of those left
first_in : (p : ℕ → Bool) (d : ℕ) (xs : List ℕ) → (first_or p d xs ≡ d) ⊎ (1 ≤ count (eqb (first_or p d xs)) xs)
unfolding first_or
first_in p d [] = inl refl
first_in p d (x ∷ xs) = ⊎_elim
    (λ (t : p x ≡ true). inr (rw (first_yes p d x xs t) (let o : bit (eqb x x) ≡ 1 = ap bit (eq-eqb x x refl) in omega arith)))
    (λ (t : p x ≡ false). subst (λ (v : ℕ). (v ≡ d) ⊎ (1 ≤ count (eqb v) (x ∷ xs))) (sym (first_no p d x xs t)) (⊎_elim
    (λ (e : first_or p d xs ≡ d). inl e)
    (λ (m : 1 ≤ count (eqb (first_or p d xs)) xs). inr (omega arith))
    (first_in p d xs)))
    (either (p x))

-- if it does not pass, none does
first_none : (p : ℕ → Bool) (d : ℕ) (xs : List ℕ) → p (first_or p d xs) ≡ false → count p xs ≡ 0
first_none p d [] h = refl
first_none p d (x ∷ xs) h = ⊎_elim
    (λ (t : p x ≡ true). absurd (true_not_false t (ap p (sym (first_yes p d x xs t)) ∙ h)))
    (λ (t : p x ≡ false). let z : bit (p x) ≡ 0 = ap bit t in let ih = first_none p d xs (ap p (sym (first_no p d x xs t)) ∙ h) in omega arith)
    (either (p x))

module _ (i x : ℕ) (xs : List ℕ) where
  pub without_yes : eqb i x ≡ true → without i (x ∷ xs) ≡ xs
  unfolding without
  without_yes h = rw (h, without)

  pub without_no : eqb i x ≡ false → without i (x ∷ xs) ≡ x ∷ without i xs
  unfolding without
  without_no h = rw (h, without)

pub without_count : (i : ℕ) (xs : List ℕ) → 1 ≤ count (eqb i) xs → (j : ℕ) → bit (eqb j i) + count (eqb j) (without i xs) ≡ count (eqb j) xs
without_count i [] h j = absurd (omega arith)
without_count i (x ∷ xs) h j = ⊎_elim
    (λ (t : eqb i x ≡ true). rw (without_yes i x xs t) (let e : bit (eqb j i) ≡ bit (eqb j x) = ap (λ (z : ℕ). bit (eqb j z)) (eqb-true i x t) in omega arith))
    (λ (t : eqb i x ≡ false). rw (without_no i x xs t) (let z : bit (eqb i x) ≡ 0 = ap bit t in let ih = without_count i xs (omega arith) j in omega arith))
    (either (eqb i x))

pub without_length : (i : ℕ) (xs : List ℕ) → 1 ≤ count (eqb i) xs → suc (length (without i xs)) ≡ length xs
without_length i [] h = absurd (omega arith)
without_length i (x ∷ xs) h = ⊎_elim
    (λ (t : eqb i x ≡ true). rw (without_yes i x xs t))
    (λ (t : eqb i x ≡ false). rw (without_no i x xs t) (let z : bit (eqb i x) ≡ 0 = ap bit t in let ih = without_length i xs (omega arith) in omega arith))
    (either (eqb i x))

-- what a pick is
pub record Picked (p : ℕ → Bool) (x : ℕ) (xs : List ℕ) (i : ℕ) : Type 0 where
  pub left : 1 ≤ count (eqb i) (x ∷ xs)
  pub none : p i ≡ false → count p (x ∷ xs) ≡ 0

pub picked : (p : ℕ → Bool) (x : ℕ) (xs : List ℕ) → Picked p x xs (first_or p x (x ∷ xs))
picked p x xs = record {
  left = ⊎_elim
      (λ (e : first_or p x (x ∷ xs) ≡ x). rw e (let o : bit (eqb x x) ≡ 1 = ap bit (eq-eqb x x refl) in omega arith))
      (λ (m : 1 ≤ count (eqb (first_or p x (x ∷ xs))) (x ∷ xs)). m)
      (first_in p x (x ∷ xs));
  none = first_none p x (x ∷ xs);
}

-- the greedy order has what was left
pub greedy_count : (at : ℕ → Face) (m : ℕ) (placed left : List ℕ) → length left ≤ m → (j : ℕ) → count (eqb j) (greedy_from at m placed left) ≡ count (eqb j) left
unfolding greedy_from
greedy_count at zero placed [] h j = refl
greedy_count at zero placed (x ∷ left) h j = absurd (omega arith)
greedy_count at (suc m) placed [] h j = refl
greedy_count at (suc m) placed (x ∷ left) h j =
    let i = first_or (joined at placed) x (x ∷ left) in
    let k = picked (joined at placed) x left in
    let l = without_length i (x ∷ left) k.left in
    let ih = greedy_count at m (i ∷ placed) (without i (x ∷ left)) (omega arith) j in
    let w = without_count i (x ∷ left) k.left j in
    omega arith

-- ---- no order has fewer faces that share no edge with an earlier one
module _ (at : ℕ → Face) (n : ℕ) where
  -- the faces that share an edge with one of them are among them
  abbrev pub Closed : List ℕ → Type 0
  Closed placed = (i j : ℕ) → 1 ≤ count (eqb i) placed → j < n → neighbours (at i) (at j) ≡ true → 1 ≤ count (eqb j) placed

  abbrev pub within : List ℕ → ℕ → Bool
  within placed i = any (eqb i) placed

  both_bit : (b c : Bool) → bit (b && c) ≡ 0 → c ≡ true → b ≡ false
  both_bit true true h t = absurd (omega arith)
  both_bit true false h t = absurd (true_not_false refl (sym t))
  both_bit false c h t = refl

  -- an earlier neighbour
  pub record Earlier (placed : List ℕ) (i : ℕ) : Type 0 where
    pub y : ℕ
    pub among : 1 ≤ count (eqb y) placed
    pub near : neighbours (at i) (at y) ≡ true

  earlier : (placed : List ℕ) (i : ℕ) → joined at placed i ≡ true → Earlier placed i
  unfolding joined
  earlier placed i h =
      let o = some_one (λ j. neighbours (at i) (at j)) placed (any_true (λ j. neighbours (at i) (at j)) placed h) in
      record { y = o.x; among = o.within (eqb o.x) (eq-eqb o.x o.x refl); near = o.passes }

  module _ (old more : List ℕ) (closed_old : Closed old) (closed_all : Closed (more ++ old)) (once : (i : ℕ) → count (eqb i) more + count (eqb i) old ≤ 1) where
    -- if no loose face of an order is among those, no face of the order is
    none_of : (placed order : List ℕ)
        → ((i : ℕ) → 1 ≤ count (eqb i) placed → (i < n) × (count (eqb i) more ≡ 0))
        → ((i : ℕ) → 1 ≤ count (eqb i) order → i < n)
        → loose_in at (within more) placed order ≡ 0
        → (i : ℕ) → 1 ≤ count (eqb i) order → count (eqb i) more ≡ 0
    none_of placed [] h b z i m = absurd (omega arith)
    none_of placed (x ∷ order) h b z i m = ⊎_elim
        (λ (t : eqb i x ≡ true). ap (λ (y : ℕ). count (eqb y) more) (eqb-true i x t) ∙ here)
        (λ (t : eqb i x ≡ false). let o : bit (eqb i x)
        ≡ 0 = ap bit t in none_of (x ∷ placed) order next (λ j k. b j (omega arith)) (omega arith) i (omega arith))
        (either (eqb i x))
      where
        x_below : x < n
        x_below = b x (let o : bit (eqb x x) ≡ 1 = ap bit (eq-eqb x x refl) in omega arith)

        here : count (eqb x) more ≡ 0
        here = ⊎_elim
            (λ (t : within more x ≡ true).
            let k = any_true (eqb x) more t in
            let j = both_bit (not (joined at placed x)) (within more x) (omega arith) t in
            let e = earlier placed x (not-false (joined at placed x) j) in
            let p = h e.y e.among in
            let all = closed_all x e.y (omega (arith, count_append (eqb x) more old)) p.0 e.near in
            let in-old : 1 ≤ count (eqb e.y) old = omega (arith, count_append (eqb e.y) more old) in
            let back = closed_old e.y x in-old x_below (neighbours_sym (at x) (at e.y) e.near) in
            let o = once x in
            omega arith)
            (λ (t : within more x ≡ false). any_false (eqb x) more t)
            (either (within more x))

        next : (j : ℕ) → 1 ≤ count (eqb j) (x ∷ placed) → (j < n) × (count (eqb j) more ≡ 0)
        next j k = ⊎_elim
            (λ (t : eqb j x ≡ true). let e = eqb-true j x t in (omega (arith, x_below), ap (λ (y : ℕ). count (eqb y) more) e ∙ here))
            (λ (t : eqb j x ≡ false). let o : bit (eqb j x) ≡ 0 = ap bit t in h j (omega arith))
            (either (eqb j x))

    -- so a loose face of any order of all faces is among them
    pub gain : (order : List ℕ) → Permutes n order → (i : ℕ) → i < n → 1 ≤ count (eqb i) more → 1 ≤ loose_in at (within more) [] order
    gain order h i l m = ⊎_elim
        (λ (t : ltb 0 (loose_in at (within more) [] order) ≡ true). ltb-true 0 (loose_in at (within more) [] order) t)
        (λ (t : ltb 0 (loose_in at (within more) [] order) ≡ false).
        let z = ltb-false 0 (loose_in at (within more) [] order) t in
        let o : bit (ltb i n) ≡ 1 = ap bit (lt-ltb i n l) in
        let c = h i in
        let no = none_of [] order (λ j k. absurd (omega arith)) (λ j k. let d = h j in ltb-true j n (bit_true {b = ltb j n} (omega arith))) (omega arith) i
        (omega arith) in
        absurd (omega arith))
        (either (ltb 0 (loose_in at (within more) [] order)))

  -- tests that never both pass
  apart_bit : (b c d e : Bool) → bit c + bit d ≤ bit e → bit (b && c) + bit (b && d) ≤ bit (b && e)
  apart_bit true c d e h = h
  apart_bit false c d e h = omega arith

  apart : (p q r : ℕ → Bool) → ((i : ℕ) → bit (p i) + bit (q i) ≤ bit (r i)) → (placed order : List ℕ) → loose_in at p placed order
      + loose_in at q placed order ≤ loose_in at r placed order
  apart p q r h placed [] = omega arith
  apart p q r h placed (i ∷ order) =
      let ih = apart p q r h (i ∷ placed) order in
      let s = apart_bit (not (joined at placed i)) (p i) (q i) (r i) (h i) in
      omega arith

  less_bit : (b c : Bool) → bit (b && c) ≤ bit b
  less_bit true c = bit_le c
  less_bit false c = omega arith

  less : (p : ℕ → Bool) (placed order : List ℕ) → loose_in at p placed order ≤ loose at placed order
  less p placed [] = omega arith
  less p placed (i ∷ order) = let ih = less p (i ∷ placed) order in let s = less_bit (not (joined at placed i)) (p i) in omega arith

  within_bit : (xs : List ℕ) (i : ℕ) → count (eqb i) xs ≤ 1 → bit (within xs i) ≡ count (eqb i) xs
  within_bit xs i h = any_bit (eqb i) xs h

  module _ (order : List ℕ) (permutes : Permutes n order) where
    -- the faces placed, the older ones closed, and those left
    pub record Parts (old more left : List ℕ) : Type 0 where
      pub split : (i : ℕ) → count (eqb i) more + (count (eqb i) old + count (eqb i) left) ≡ bit (ltb i n)
      pub closed_old : Closed old
      pub some : ℕ
      pub some_more : 1 ≤ count (eqb some) more

    abbrev seeds : List ℕ → ℕ
    seeds placed = loose_in at (within placed) [] order

    -- once no face left shares an edge with one placed
    closed_more : (old more left : List ℕ) → Parts old more left → Closed (more ++ old) → seeds old + 1 ≤ seeds (more ++ old)
    closed_more old more left h c =
        let once : (i : ℕ) → count (eqb i) more + count (eqb i) old ≤ 1 = λ i. omega (arith, h.split i, bit_le (ltb i n)) in
        let x_below = ltb-true h.some n (bit_true {b = ltb h.some n} (omega (arith, h.split h.some, h.some_more))) in
        let g = gain old more h.closed_old c once order permutes h.some x_below h.some_more in
        let a = apart (within old) (within more) (within (more ++ old)) (λ i.
        omega (
          arith,
          once i,
          count_append (eqb i) more old,
          within_bit old i (omega (arith, once i)),
          within_bit more i (omega (arith, once i)),
          within_bit
              (more ++ old) i (omega (arith, once i, count_append (eqb i) more old)),
        )) [] order in
        omega arith

    all_closed : (old more left : List ℕ) → Parts old more left → ((j : ℕ) → 1 ≤ count (eqb j) left → joined at (more ++ old) j ≡ false) → Closed (more ++ old)
    unfolding joined
    all_closed old more left h none i j m l t = ⊎_elim
        (λ (u : within left j ≡ true).
        let k = none j (any_true (eqb j) left u) in
        let z = any_false (λ y. neighbours (at j) (at y)) (more ++ old) k in
        let o = member_passes (λ y. neighbours (at j) (at y)) i (neighbours_sym (at i) (at j) t) (more ++ old) m in
        absurd (omega arith))
        (λ (u : within left j ≡ false).
        let z = any_false (eqb j) left u in
        let o : bit (ltb j n) ≡ 1 = ap bit (lt-ltb j n l) in
        omega (arith, h.split j, count_append (eqb j) more old))
        (either (within left j))

    at_end : (old more : List ℕ) → Parts old more [] → seeds old + 1 ≤ loose at [] order
    at_end old more h =
        let c = all_closed old more [] h (λ j m. absurd (omega arith)) in
        omega (arith, closed_more old more [] h c, less (within (more ++ old)) [] order)

    pub least : (m : ℕ) (old more left : List ℕ) → length left ≤ m → Parts old more left → seeds old
        + (1 + loose at (more ++ old) (greedy_from at m (more ++ old) left)) ≤ loose at [] order
    unfolding greedy_from
    least zero old more [] l h = omega (arith, at_end old more h)
    least zero old more (x ∷ left) l h = absurd (omega arith)
    least (suc m) old more [] l h = omega (arith, at_end old more h)
    least (suc m) old more (x ∷ left) l h = ⊎_elim
        (λ (t : joined at placed i ≡ true).
        let z : bit (not (joined at placed i)) ≡ 0 = ap (λ (b : Bool). bit (not b)) t in
        let ih = least m old (i ∷ more) rest short
        (record { split = λ j. omega (arith, h.split j, gone j); closed_old = h.closed_old; some = h.some; some_more = omega (arith, h.some_more) }) in
        omega arith)
        (λ (t : joined at placed i ≡ false).
        let z : bit (not (joined at placed i)) ≡ 1 = ap (λ (b : Bool). bit (not b)) t in
        let c = all_closed old more (x ∷ left) h
        (λ j k. not-true (λ (u : joined at placed j ≡ true). let v = member_passes (joined at placed) j u
        (x ∷ left) k in let w = pick.none t in omega arith)) in
        let ih = least m placed (i ∷ []) rest short (record {
          split = λ j. omega (arith, h.split j, gone j, count_append (eqb j) more old);
          closed_old = c;
          some = i;
          some_more = let o : bit (eqb i i) ≡ 1 = ap bit (eq-eqb i i refl) in omega arith;
        }) in
        omega (arith, closed_more old more (x ∷ left) h c))
        (either (joined at placed i))
      where
        placed : List ℕ
        placed = more ++ old

        i : ℕ
        i = first_or (joined at placed) x (x ∷ left)

        pick : Picked (joined at placed) x left i
        pick = picked (joined at placed) x left

        rest : List ℕ
        rest = without i (x ∷ left)

        short : length rest ≤ m
        short = omega (arith, without_length i (x ∷ left) pick.left)

        gone : (j : ℕ) → bit (eqb j i) + count (eqb j) rest ≡ count (eqb j) (x ∷ left)
        gone = without_count i (x ∷ left) pick.left

    -- from the start
    pub least_all : (m : ℕ) (left : List ℕ) → length left ≤ m → Permutes n left → loose at [] (greedy_from at m [] left) ≤ loose at [] order
    unfolding greedy_from
    least_all zero left l h = omega arith
    least_all (suc m) [] l h = omega arith
    least_all (suc m) (x ∷ left) l h =
        let i = first_or (joined at []) x (x ∷ left) in
        let k = picked (joined at []) x left in
        let short = without_length i (x ∷ left) k.left in
        let b = bit_le (not (joined at [] i)) in
        let ih = least m [] (i ∷ []) (without i (x ∷ left)) (omega arith) (record {
          split = λ j. omega (arith, h j, without_count i (x ∷ left) k.left j);
          closed_old = λ y j m l t. absurd (omega arith);
          some = i;
          some_more = let o : bit (eqb i i) ≡ 1 = ap bit (eq-eqb i i refl) in omega arith;
        }) in
        omega arith
