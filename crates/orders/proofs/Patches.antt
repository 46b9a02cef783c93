-- Every patch of the shape that ours have is accepted, its faces in any order and the first two points of any of them
-- swapped. Assumes nothing.
use Prim.Native.Nat.{ℕ, zero, suc, ◌+◌, ◌≤◌, ◌<◌}
use mathlib.Core.Path.{◌≡◌, refl, sym, ap, ◌∙◌, subst, subst₂}
use mathlib.Core.Logic.{◌⊎◌, ⊎_elim}
use mathlib.Core.Bool.{Bool, true, false, not}
use mathlib.Core.List.{List, [], ◌∷◌, ◌++◌, append_assoc, append-nil}
use native.Mathlib.Numerals.{add-one}
use native.Mathlib.Omega.{arith}
use lib.Dec.{eqb, ltb}
use borrow.Author.Tests.{eqb-true, lt-ltb}
use lib.ListN.{length, get_or, take, drop}
use Rattle.lists.specs.Lists.{bit, count, any, up_from}
use Rattle.patch.specs.Lay.{Edge, edge, same, Face, points_of, edges_of}
use Rattle.patch.specs.Shape.{has, touches, no_face, new_points, Laid, Shape}
use Rattle.lists.proofs.Bools.{either}
use Rattle.lists.proofs.Counts.{any_true, any_false, true_any, count_append, count_ext}
use Rattle.patch.proofs.Edges.{same_sym, same_congr, same_false, key_same, has_congr}
use Rattle.orders.specs.Order.{neighbours, reached, joined, fresh, fits, all_fit, face_at, Valid, AllDifferent, order_accepted, swapped, Rearranged}
use Rattle.orders.proofs.Sums.{some_one, recount}
use Rattle.orders.proofs.Totals.{same_length}
use Rattle.orders.proofs.Decide.{numbers_length, numbers_permute, valid_accepted}

-- ---- faces that are told apart by nothing that counts here
pub record Alike (f g : Face) : Type 0 where
  pub points : (p : ℕ → Bool) → count p (points_of f) ≡ count p (points_of g)
  pub edges : (p : Edge → Bool) → ((d e : Edge) → same d e ≡ true → p d ≡ p e) → count p (edges_of f) ≡ count p (edges_of g)

module _ (f : Face) where
  flip_same : (x y : ℕ) → same (edge x y) (edge y x) ≡ true
  flip_same x y = key_same (edge x y) (edge y x) (omega arith)

  swapped_alike : Alike (swapped f) f
  swapped_alike = record {
    points = λ p. omega arith;
    edges = λ p h.
        let a = ap bit (h (edge f.b f.a) (edge f.a f.b) (flip_same f.b f.a)) in
        let b = ap bit (h (edge f.a f.c) (edge f.c f.a) (flip_same f.a f.c)) in
        let c = ap bit (h (edge f.c f.b) (edge f.b f.c) (flip_same f.c f.b)) in
        omega arith;
  }

alike : (f g : Face) → (f ≡ g) ⊎ (f ≡ swapped g) → Alike f g
alike f g h = ⊎_elim
    (λ (e : f ≡ g). rw e (record { points = λ p. refl; edges = λ p h. refl }))
    (λ (e : f ≡ swapped g). rw e (swapped_alike g))
    h

same_swap : (d e : Edge) → same d e ≡ same e d
same_swap d e = ⊎_elim
    (λ (t : same d e ≡ true). t ∙ sym (same_sym d e t))
    (λ (t : same d e ≡ false). t ∙ sym (same_false d e t))
    (either (same d e))

same_right : (e c d : Edge) → same c d ≡ true → same e c ≡ same e d
same_right e c d t = same_swap e c ∙ same_congr c d t e ∙ same_swap d e

module _ (f g : Face) (h : Alike f g) where
  alike_touches : (x : ℕ) → touches x f ≡ touches x g
  unfolding touches any
  alike_touches x = ap (ltb 0) (h.points (eqb x))

  alike_has : (e : Edge) → has e f ≡ has e g
  unfolding has any
  alike_has e = ap (ltb 0) (h.edges (same e) (λ c d t. same_right e c d t))

  alike_neighbours : (k : Face) → neighbours f k ≡ neighbours g k
  unfolding neighbours any
  alike_neighbours k = ap (ltb 0) (h.edges (λ e. has e k) (λ d e t. has_congr d e t k))

neighbours_alike : (k f g : Face) → Alike f g → neighbours k f ≡ neighbours k g
unfolding neighbours any
neighbours_alike k f g h = ap (ltb 0) (count_ext (λ e. has e f) (λ e. has e g) (alike_has f g h) (edges_of k))

-- what a test says of a face, whichever of its alikes stands for it
abbrev Fair : (Face → Bool) → Type 0
Fair p = (f g : Face) → Alike f g → p f ≡ p g

-- a laid face shares an edge in the sense of the order
laid_shares : (earlier : List Face) (g : Face) (e : Edge) → has e g ≡ true → any (has e) earlier ≡ true → any (neighbours g) earlier ≡ true
unfolding neighbours has
laid_shares earlier g e h k =
    let d = some_one (same e) (edges_of g) (any_true (same e) (edges_of g) h) in
    let f = some_one (has e) earlier (any_true (has e) earlier k) in
    let b = sym (has_congr e d.x d.passes f.x) ∙ f.passes in
    let n = true_any (λ c. has c f.x) (edges_of g) (d.within (λ c. has c f.x) b) in
    true_any (neighbours g) earlier (f.within (neighbours g) n)

module _ (at : ℕ → Face) where
  -- the numbers placed stand for the faces laid
  abbrev Along : List ℕ → List Face → Type 0
  Along placed earlier = (p : Face → Bool) → Fair p → count (λ j. p (at j)) placed ≡ count p earlier

  module _ (placed : List ℕ) (earlier : List Face) (along : Along placed earlier) where
    along_reached : (x : ℕ) → reached at placed x ≡ any (touches x) earlier
    unfolding reached any
    along_reached x = ap (ltb 0) (along (touches x) (λ f g a. alike_touches f g a x))

    along_joined : (k : Face) → any (λ j. neighbours k (at j)) placed ≡ any (neighbours k) earlier
    unfolding any
    along_joined k = ap (ltb 0) (along (neighbours k) (neighbours_alike k))

    module _ (i : ℕ) (g : Face) (a : Alike (at i) g) where
      along_fresh : fresh at placed i ≡ new_points earlier g
      unfolding fresh new_points
      along_fresh = a.points (λ x. not (reached at placed x)) ∙ count_ext (λ x. not (reached at placed x)) (λ x. not (any (touches x) earlier))
          (λ x. ap not (along_reached x)) (points_of g)

      along_shares : joined at placed i ≡ any (neighbours g) earlier
      unfolding joined any
      along_shares = ap (ltb 0)
          (count_ext (λ j. neighbours (at i) (at j)) (λ j. neighbours g (at j)) (λ j. alike_neighbours (at i) g a (at j)) placed) ∙ along_joined g

      laid_fits : (seed : Bool) → Laid seed earlier g → fits at placed i ≡ true
      unfolding fits
      laid_fits true l = rw (along_fresh ∙ l.seed_new refl)
      laid_fits false l =
          let s = l.other_shares refl in
          rw (along_fresh ∙ l.other_new refl, along_shares ∙ laid_shares earlier g s.0 s.1 s.2)

  -- pair by pair
  abbrev Pairs : List ℕ → List Face → Type 0
  Pairs order gs = (k : ℕ) → k < length gs → Alike (at (get_or order k 0)) (get_or gs k no_face)

  pairs_count : (order : List ℕ) (gs : List Face) → length order ≡ length gs → Pairs order gs → Along order gs
  pairs_count [] [] l h p fair = refl
  pairs_count [] (g ∷ gs) l h p fair = absurd (omega arith)
  pairs_count (i ∷ order) [] l h p fair = absurd (omega arith)
  pairs_count (i ∷ order) (g ∷ gs) l h p fair =
      let ih = pairs_count order gs (omega arith) (λ k b. h (suc k) (omega arith)) p fair in
      let here : bit (p (at i)) ≡ bit (p g) = ap bit (fair (at i) g (h 0 (omega arith))) in
      omega arith

  pairs_fit : (placed : List ℕ) (earlier : List Face) → Along placed earlier → (order : List ℕ) (gs : List Face) (flags : List Bool) → length order ≡ length gs
      → Pairs order gs
      → ((k : ℕ) → k < length gs → Laid (get_or flags k false) (earlier ++ take k gs) (get_or gs k no_face)) → all_fit at placed order ≡ true
  unfolding all_fit
  pairs_fit placed earlier along [] gs flags l h laid = refl
  pairs_fit placed earlier along (i ∷ order) [] flags l h laid = absurd (omega arith)
  pairs_fit placed earlier along (i ∷ order) (g ∷ gs) flags l h laid =
      let first : Laid (get_or flags 0 false) earlier g = subst (λ es. Laid (get_or flags 0 false) es g) (append-nil earlier) (laid 0 (omega arith)) in
      let a = h 0 (omega arith) in
      rw (laid_fits placed earlier along i g a (get_or flags 0 false) first)
      (pairs_fit (i ∷ placed) (earlier ++ (g ∷ []))
      (λ p fair. let e = along p fair in let f : bit (p (at i)) ≡ bit (p g) = ap bit (fair (at i) g a) in omega (arith, count_append p earlier (g ∷ [])))
      order gs (drop 1 flags) (omega arith) (λ k b. h (suc k) (omega arith))
      (λ k b. subst₂ (λ es s. Laid s es (get_or gs k no_face)) (sym (append_assoc earlier (g ∷ []) (take k gs))) (later flags k) (laid (suc k) (omega arith))))
    where
      later : (flags : List Bool) (k : ℕ) → get_or flags (suc k) false ≡ get_or (drop 1 flags) k false
      later [] k = refl
      later (b ∷ bs) k = refl

-- ---- by number and by place
shift : (q : ℕ → Bool) (m k : ℕ) → count (λ i. q (suc i)) (up_from k m) ≡ count q (up_from (k + 1) m)
unfolding up_from
shift q zero k = refl
shift q (suc m) k =
    let ih = shift q m (k + 1) in
    let e : bit (q (k + 1)) ≡ bit (q (suc k)) = ap (λ (z : ℕ). bit (q z)) (add-one k) in
    omega arith

pub by_number : (p : Face → Bool) (hs : List Face) → count p hs ≡ count (λ i. p (face_at hs i)) (up_from 0 (length hs))
unfolding up_from
by_number p [] = refl
by_number p (h ∷ hs) = let ih = by_number p hs in let s = shift (λ i. p (face_at (h ∷ hs) i)) (length hs) 0 in omega arith

place : (i : ℕ) (xs : List ℕ) → 1 ≤ count (eqb i) xs → (k : ℕ) × (k < length xs) × (get_or xs k 0 ≡ i)
place i [] h = absurd (omega arith)
place i (x ∷ xs) h = ⊎_elim
    (λ (t : eqb i x ≡ true). (0, omega arith, sym (eqb-true i x t)))
    (λ (t : eqb i x ≡ false). let z : bit (eqb i x) ≡ 0 = ap bit t in let r = place i xs (omega arith) in (suc r.0, omega (arith, r.1), r.2))
    (either (eqb i x))

-- ---- the theorem
module _ (fs : List Face) (flags : List Bool) (F S looks pivots : ℕ) (shape : Shape fs flags F S looks pivots) (hs : List Face) (order : List ℕ)
    (r : Rearranged fs hs order) where
  pairs : Pairs (face_at hs) order fs
  pairs k b = alike (face_at hs (get_or order k 0)) (face_at fs k) (r.each k b)

  long : length order ≡ length fs
  long = same_length (length hs) order (up_from 0 (length hs)) r.permutes (numbers_permute (length hs)) ∙ numbers_length (length hs) 0 ∙ r.many

  few_edges : (e : Edge) → count (has e) hs ≤ 2
  few_edges e =
      let a = by_number (has e) hs in
      let b = recount (λ i. has e (face_at hs i)) (length hs) (up_from 0 (length hs)) order (numbers_permute (length hs)) r.permutes in
      let c = pairs_count (face_at hs) order fs long pairs (has e) (λ f g h. alike_has f g h e) in
      let d : count (has e) fs ≤ 2 = ⊎_elim
      (λ (t : any (has e) fs ≡ true). (shape.one_or_two e t).1)
      (λ (t : any (has e) fs ≡ false). let z = any_false (has e) fs t in omega arith)
      (either (any (has e) fs)) in
      omega arith

  pub shape_valid : Valid hs order
  shape_valid = record {
    permutes = r.permutes;
    fit = pairs_fit (face_at hs) [] [] (λ p fair. refl) order fs flags long pairs (λ k b. shape.each k (omega (arith, shape.number)));
    few = few_edges;
  }

  pub shape_different : AllDifferent hs
  shape_different i b =
      let p = r.permutes i in
      let o : bit (ltb i (length hs)) ≡ 1 = ap bit (lt-ltb i (length hs) b) in
      let k = place i order (omega arith) in
      let l = long in
      let in_fs : k.0 < length fs = omega (arith, k.1) in
      let d = (shape.each k.0 (omega (arith, in_fs, shape.number))).different in
      let same-face : face_at hs i ≡ face_at hs (get_or order k.0 0) = ap (face_at hs) (sym k.2) in
      ⊎_elim
      (λ (e : face_at hs (get_or order k.0 0) ≡ face_at fs k.0). rw (same-face ∙ e) d)
      (λ (e : face_at hs (get_or order k.0 0) ≡ swapped (face_at fs k.0)). rw (same-face ∙ e) ((λ q. d.0 (sym q)), (λ q. d.2 (sym q)), (λ q. d.1 (sym q))))
      (r.each k.0 in_fs)

  pub shape_accepted : order_accepted hs ≡ true
  shape_accepted = valid_accepted hs shape_different order shape_valid
