-- The sides of a face that fits: one whose points were both reached before lies in a placed face, so the faces that
-- come to share an edge with a placed one are those at its new sides. Assumes nothing.
use Prim.Native.Nat.{ℕ, ◌+◌}
use mathlib.Core.Path.{◌≡◌, refl, sym, ap, ◌∙◌}
use mathlib.Core.Logic.{◌⊎◌, inl, inr, ⊎_elim}
use mathlib.Core.Bool.{Bool, true, false, not, ◌&&◌, ◌||◌}
use mathlib.Core.List.{List}
use native.Mathlib.Omega.{arith}
use lib.Dec.{eqb}
use borrow.Author.Tests.{eqb-true}
use Rattle.lists.specs.Lists.{bit}
use Rattle.lists.proofs.Bools.{and_both}
use Rattle.lists.proofs.Counts.{bit_le, any_true, true_any}
use Rattle.patch.specs.Lay.{Edge, edge, same, Face, edges_of}
use Rattle.patch.specs.Shape.{has, touches}
use Rattle.patch.proofs.Edges.{same_refl, has_congr, which, touches_v1, touches_v2}
use Rattle.orders.specs.Order.{neighbours, reached, joined, fresh, fits}
use Rattle.orders.proofs.Sums.{some_one}
use Rattle.placing.specs.Inner.Placing.{is_placed}

pub or_either : (p q : Bool) → (p || q) ≡ true → (p ≡ true) ⊎ (q ≡ true)
or_either true q h = inl refl
or_either false q h = inr h

pub or_left : (p q : Bool) → p ≡ true → (p || q) ≡ true
or_left p q h = rw h

pub or_right : (p q : Bool) → q ≡ true → (p || q) ≡ true
or_right true q h = refl
or_right false q h = h

-- two faces share an edge if one has an edge of the other
pub own_edge : (e : Edge) (f g : Face) → has e f ≡ true → has e g ≡ true → neighbours f g ≡ true
unfolding neighbours has
own_edge e f g h k =
    let d = some_one (same e) (edges_of f) (any_true (same e) (edges_of f) h) in
    true_any (λ c. has c g) (edges_of f) (d.within (λ c. has c g) (sym (has_congr e d.x d.passes g) ∙ k))

module _ (f : Face) where
  pub own_ab : has (edge f.a f.b) f ≡ true
  unfolding has
  own_ab = let o : bit (same (edge f.a f.b) (edge f.a f.b))
      ≡ 1 = ap bit (same_refl (edge f.a f.b)) in true_any (same (edge f.a f.b)) (edges_of f) (omega arith)

  pub own_bc : has (edge f.b f.c) f ≡ true
  unfolding has
  own_bc = let o : bit (same (edge f.b f.c) (edge f.b f.c))
      ≡ 1 = ap bit (same_refl (edge f.b f.c)) in true_any (same (edge f.b f.c)) (edges_of f) (omega arith)

  pub own_ca : has (edge f.c f.a) f ≡ true
  unfolding has
  own_ca = let o : bit (same (edge f.c f.a) (edge f.c f.a))
      ≡ 1 = ap bit (same_refl (edge f.c f.a)) in true_any (same (edge f.c f.a)) (edges_of f) (omega arith)

pub neighbours_which : (f g : Face) → neighbours f g ≡ true
    → (has (edge f.a f.b) g ≡ true) ⊎ ((has (edge f.b f.c) g ≡ true) ⊎ (has (edge f.c f.a) g ≡ true))
unfolding neighbours
neighbours_which f g h = which (has (edge f.a f.b) g) (has (edge f.b f.c) g) (has (edge f.c f.a) g) (any_true (λ e. has e g) (edges_of f) h)

module _ (at : ℕ → Face) (placed : List ℕ) where
  -- both points of a laid edge are reached
  pub laid_reached : (x y : ℕ) → is_placed at placed (edge x y) ≡ true → (reached at placed x ≡ true) × (reached at placed y ≡ true)
  unfolding reached
  laid_reached x y h =
      let j = some_one (λ j. has (edge x y) (at j)) placed (any_true (λ j. has (edge x y) (at j)) placed h) in (
        true_any (λ j. touches x (at j)) placed (j.within (λ j. touches x (at j)) (touches_v1 (edge x y) (at j.x) j.passes)),
        true_any (λ j. touches y (at j)) placed (j.within (λ j. touches y (at j)) (touches_v2 (edge x y) (at j.x) j.passes)),
      )

  -- a face that has a laid edge shares it
  pub laid_joined : (e : Edge) (g : ℕ) → is_placed at placed e ≡ true → has e (at g) ≡ true → joined at placed g ≡ true
  unfolding joined
  laid_joined e g h k =
      let j = some_one (λ j. has e (at j)) placed (any_true (λ j. has e (at j)) placed h) in
      true_any (λ j. neighbours (at g) (at j)) placed (j.within (λ j. neighbours (at g) (at j)) (own_edge e (at g) (at j.x) k j.passes))

  pub joined_laid : (i : ℕ) → joined at placed i ≡ true
      → (is_placed at placed (edge (at i).a (at i).b) ≡ true) ⊎
      ((is_placed at placed (edge (at i).b (at i).c) ≡ true) ⊎ (is_placed at placed (edge (at i).c (at i).a) ≡ true))
  unfolding joined
  joined_laid i h =
      let j = some_one (λ j. neighbours (at i) (at j)) placed (any_true (λ j. neighbours (at i) (at j)) placed h) in
      let on : (e : Edge) → has e (at j.x) ≡ true → is_placed at placed e
      ≡ true = λ e k. true_any (λ j. has e (at j)) placed (j.within (λ j. has e (at j)) k) in
      ⊎_elim
      (λ (k : has (edge (at i).a (at i).b) (at j.x) ≡ true). inl (on (edge (at i).a (at i).b) k))
      (⊎_elim
      (λ (k : has (edge (at i).b (at i).c) (at j.x) ≡ true). inr (inl (on (edge (at i).b (at i).c) k)))
      (λ (k : has (edge (at i).c (at i).a) (at j.x) ≡ true). inr (inr (on (edge (at i).c (at i).a) k))))
      (neighbours_which (at i) (at j.x) j.passes)

  -- a face that fits: a side with both points reached is laid. The three sides are the same but for their names
  one_new : (p q r : ℕ) → (fresh : ℕ) → fresh ≡ bit (not (reached at placed p)) + (bit (not (reached at placed q)) + bit (not (reached at placed r)))
      → (shares : Bool) → (shares ≡ true
      → (is_placed at placed (edge p q) ≡ true) ⊎ ((is_placed at placed (edge q r) ≡ true) ⊎ (is_placed at placed (edge r p) ≡ true)))
      → (eqb fresh 3 || (shares && eqb fresh 1)) ≡ true → reached at placed p ≡ true → reached at placed q ≡ true → is_placed at placed (edge p q) ≡ true
  one_new p q r fresh sum shares which-one fit hp hq =
      let zp : bit (not (reached at placed p)) ≡ 0 = ap (λ (b : Bool). bit (not b)) hp in
      let zq : bit (not (reached at placed q)) ≡ 0 = ap (λ (b : Bool). bit (not b)) hq in
      let br = bit_le (not (reached at placed r)) in
      ⊎_elim
      (λ (t : eqb fresh 3 ≡ true). let e = eqb-true fresh 3 t in absurd (omega arith))
      (λ (t : (shares && eqb fresh 1) ≡ true).
      let b = and_both {p = shares} {q = eqb fresh 1} t in
      let e = eqb-true fresh 1 b.1 in
      let no : reached at placed r ≡ true → ⊥ = λ h. (let z : bit (not (reached at placed r)) ≡ 0 = ap (λ (v : Bool). bit (not v)) h in omega arith) in
      ⊎_elim
      (λ (k : is_placed at placed (edge p q) ≡ true). k)
      (⊎_elim
      (λ (k : is_placed at placed (edge q r) ≡ true). absurd (no (laid_reached q r k).1))
      (λ (k : is_placed at placed (edge r p) ≡ true). absurd (no (laid_reached r p k).0)))
      (which-one b.0))
      (or_either (eqb fresh 3) (shares && eqb fresh 1) fit)

  turn : {A B C : Type 0} → A ⊎ (B ⊎ C) → B ⊎ (C ⊎ A)
  turn (inl a) = inr (inr a)
  turn (inr (inl b)) = inl b
  turn (inr (inr c)) = inr (inl c)

  module _ (i : ℕ) (fit : fits at placed i ≡ true) where
    pub old_ab : reached at placed (at i).a ≡ true → reached at placed (at i).b ≡ true → is_placed at placed (edge (at i).a (at i).b) ≡ true
    unfolding fits fresh
    old_ab = one_new (at i).a (at i).b (at i).c (fresh at placed i) (omega arith) (joined at placed i) (joined_laid i) fit

    pub old_bc : reached at placed (at i).b ≡ true → reached at placed (at i).c ≡ true → is_placed at placed (edge (at i).b (at i).c) ≡ true
    unfolding fits fresh
    old_bc = one_new (at i).b (at i).c (at i).a (fresh at placed i) (omega arith) (joined at placed i) (λ h. turn (joined_laid i h)) fit

    pub old_ca : reached at placed (at i).c ≡ true → reached at placed (at i).a ≡ true → is_placed at placed (edge (at i).c (at i).a) ≡ true
    unfolding fits fresh
    old_ca = one_new (at i).c (at i).a (at i).b (fresh at placed i) (omega arith) (joined at placed i) (λ h. turn (turn (joined_laid i h))) fit
