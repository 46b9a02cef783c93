-- An order is valid exactly if its faces bring in as many points as F + 2 times the faces that share no edge with an
-- earlier one; no order brings in more, and all bring in the same. Assumes nothing.
use Prim.Native.Nat.{ℕ, ◌+◌, ◌*◌, ◌≤◌, ◌<◌}
use mathlib.Core.Path.{◌≡◌, refl, sym, ap, ◌∙◌}
use mathlib.Core.Logic.{◌⊎◌, inl, inr, ⊎_elim}
use mathlib.Core.Bool.{Bool, true, false, not, ◌&&◌, ◌||◌}
use mathlib.Core.List.{List, [], ◌∷◌}
use native.Mathlib.Omega.{arith}
use lib.Dec.{eqb, ltb}
use borrow.Author.Tests.{eqb-true, eq-eqb, ltb-true}
use lib.ListN.{length}
use Rattle.lists.specs.Lists.{bit, count, any}
use Rattle.patch.specs.Lay.{Face}
use Rattle.patch.specs.Shape.{touches}
use Rattle.lists.proofs.Bools.{either, true_not_false, and_both}
use Rattle.lists.proofs.Counts.{bit_le, bit_true, count_all}
use Rattle.orders.specs.Order.{reached, joined, fresh, fits, all_fit, loose, Permutes}
use Rattle.orders.proofs.Sums.{sum_ext, recount}
use Rattle.orders.proofs.Points.{joined_fresh, fresh_three, cover, Inside, cover_more}

either_or : {p q : Bool} → (p || q) ≡ true → (p ≡ true) ⊎ (q ≡ true)
either_or {p = true} {q} h = inl refl
either_or {p = false} {q = true} h = inr refl
either_or {p = false} {q = false} h = absurd (true_not_false refl (sym h))

module _ (at : ℕ → Face) where
  -- what the faces of an order bring in
  abbrev pub total : List ℕ → List ℕ → ℕ
  total placed [] = 0
  total placed (i ∷ order) = fresh at placed i + total (i ∷ placed) order

  -- how many of them share no edge with an earlier one, and pass a test
  abbrev pub loose_in : (ℕ → Bool) → List ℕ → List ℕ → ℕ
  loose_in p placed [] = 0
  loose_in p placed (i ∷ order) = bit (not (joined at placed i) && p i) + loose_in p (i ∷ placed) order

  -- one face brings in at most one point, or three where it shares no edge
  one_step : (placed : List ℕ) (i : ℕ) → fresh at placed i ≤ 1 + 2 * bit (not (joined at placed i))
  one_step placed i = ⊎_elim
      (λ (t : joined at placed i ≡ true). let z : bit (not (joined at placed i))
      ≡ 0 = ap (λ (b : Bool). bit (not b)) t in let k = joined_fresh at placed i t in omega arith)
      (λ (t : joined at placed i ≡ false). let z : bit (not (joined at placed i))
      ≡ 1 = ap (λ (b : Bool). bit (not b)) t in let k = fresh_three at placed i in omega arith)
      (either (joined at placed i))

  pub most : (placed order : List ℕ) → total placed order ≤ length order + 2 * loose at placed order
  most placed [] = omega arith
  most placed (i ∷ order) = let ih = most (i ∷ placed) order in let s = one_step placed i in omega arith

  fit_step : (placed : List ℕ) (i : ℕ) → fits at placed i ≡ true → 1 + 2 * bit (not (joined at placed i)) ≤ fresh at placed i
  unfolding fits
  fit_step placed i h = ⊎_elim
      (λ (t : eqb (fresh at placed i) 3 ≡ true). let e = eqb-true (fresh at placed i) 3 t in let b = bit_le (not (joined at placed i)) in omega arith)
      (λ (t : (joined at placed i && eqb (fresh at placed i) 1) ≡ true).
      let b = and_both {p = joined at placed i} {q = eqb (fresh at placed i) 1} t in
      let e = eqb-true (fresh at placed i) 1 b.1 in
      let z : bit (not (joined at placed i)) ≡ 0 = ap (λ (b : Bool). bit (not b)) b.0 in
      omega arith)
      (either_or h)

  step_fit : (placed : List ℕ) (i : ℕ) → 1 + 2 * bit (not (joined at placed i)) ≤ fresh at placed i → fits at placed i ≡ true
  unfolding fits
  step_fit placed i h = ⊎_elim
      (λ (t : joined at placed i ≡ true).
      let z : bit (not (joined at placed i)) ≡ 0 = ap (λ (b : Bool). bit (not b)) t in
      let k = joined_fresh at placed i t in
      let e : fresh at placed i ≡ 1 = omega arith in
      rw (e, t))
      (λ (t : joined at placed i ≡ false).
      let z : bit (not (joined at placed i)) ≡ 1 = ap (λ (b : Bool). bit (not b)) t in
      let k = fresh_three at placed i in
      let e : fresh at placed i ≡ 3 = omega arith in
      rw e)
      (either (joined at placed i))

  pub fit_total : (placed order : List ℕ) → all_fit at placed order ≡ true → length order + 2 * loose at placed order ≤ total placed order
  unfolding all_fit
  fit_total placed [] h = omega arith
  fit_total placed (i ∷ order) h =
      let b = and_both {p = fits at placed i} {q = all_fit at (i ∷ placed) order} h in
      let ih = fit_total (i ∷ placed) order b.1 in
      let s = fit_step placed i b.0 in
      omega arith

  pub total_fit : (placed order : List ℕ) → length order + 2 * loose at placed order ≤ total placed order → all_fit at placed order ≡ true
  unfolding all_fit
  total_fit placed [] h = refl
  total_fit placed (i ∷ order) h =
      let m = most (i ∷ placed) order in
      let s = one_step placed i in
      rw (step_fit placed i (omega arith)) (total_fit (i ∷ placed) order (omega arith))

  -- ---- all orders bring in the same
  abbrev pub pour : List ℕ → List ℕ → List ℕ
  pour placed [] = placed
  pour placed (i ∷ order) = pour (i ∷ placed) order

  count_pour : (p : ℕ → Bool) (placed order : List ℕ) → count p (pour placed order) ≡ count p placed + count p order
  count_pour p placed [] = omega arith
  count_pour p placed (i ∷ order) = let ih = count_pour p (i ∷ placed) order in omega arith

  module _ (n m : ℕ) (inside : (i : ℕ) → i < m → Inside at n i) where
    pub cover_total : (placed order : List ℕ) → ((i : ℕ) → 1 ≤ count (eqb i) order → i < m) → total placed order + cover at n placed
        ≡ cover at n (pour placed order)
    cover_total placed [] h = omega arith
    cover_total placed (i ∷ order) h =
        let self : bit (eqb i i) ≡ 1 = ap bit (eq-eqb i i refl) in
        let ih = cover_total (i ∷ placed) order (λ j k. h j (omega arith)) in
        let s = cover_more at n placed i (inside i (h i (omega arith))) in
        omega arith

    pub below : (order : List ℕ) → Permutes m order → (i : ℕ) → 1 ≤ count (eqb i) order → i < m
    below order h i k = let e = h i in ltb-true i m (bit_true {b = ltb i m} (omega arith))

    same_reach : (o g : List ℕ) → Permutes m o → Permutes m g → (x : ℕ) → reached at (pour [] o) x ≡ reached at (pour [] g) x
    unfolding reached any
    same_reach o g h k x =
        let t : ℕ → Bool = λ j. touches x (at j) in
        ap (ltb 0) (count_pour t [] o ∙ ap (λ (z : ℕ). 0 + z) (recount t m o g h k) ∙ sym (count_pour t [] g))

    pub same_total : (o g : List ℕ) → Permutes m o → Permutes m g → total [] o ≡ total [] g
    same_total o g h k =
        let a = cover_total [] o (below o h) in
        let b = cover_total [] g (below g k) in
        let c = sum_ext (λ x. bit (reached at (pour [] o) x)) (λ x. bit (reached at (pour [] g) x)) (λ x. ap bit (same_reach o g h k x)) n in
        omega arith

pub same_length : (m : ℕ) (o g : List ℕ) → Permutes m o → Permutes m g → length o ≡ length g
same_length m o g h k = sym (count_all o) ∙ recount (λ x. true) m o g h k ∙ count_all g
