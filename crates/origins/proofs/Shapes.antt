-- All that is said of points, edges, looks and pivots holds of the turned patch, whatever the parents. Assumes nothing.
use Prim.Native.Nat.{ℕ, zero, suc, ◌+◌, ◌<◌}
use mathlib.Core.Path.{◌≡◌, refl, sym, ap, ap₂, ◌∙◌, subst}
use mathlib.Core.Logic.{◌≢◌}
use mathlib.Core.Bool.{Bool, true, false, not, ◌&&◌, ◌||◌}
use mathlib.Core.List.{List, [], ◌∷◌}
use native.Mathlib.Omega.{arith}
use lib.Dec.{eqb, ltb}
use lib.ListN.{length, get_or, take}
use Rattle.lists.specs.Lists.{bit, count, any}
use Rattle.lists.proofs.Counts.{count_ext}
use Rattle.patch.specs.Lay.{Edge, edge, same, Face, points_of, edges_of}
use Rattle.patch.specs.Shape.{touches, has, new_points, Laid, Shape}
use Rattle.orders.specs.Order.{face_at, swapped}
use Rattle.origins.specs.Sides.{looks_in}
use Rattle.origins.specs.Turned.{turned_face, turned_from}
use Rattle.origins.proofs.Looking.{looks_in_congr}

-- ---- a face with its first two points swapped
or_comm : (p q : Bool) → (p || q) ≡ (q || p)
or_comm true true = refl
or_comm true false = refl
or_comm false true = refl
or_comm false false = refl

flip : (e : Edge) (x y : ℕ) → same e (edge x y) ≡ same e (edge y x)
unfolding same
flip e x y = or_comm (eqb e.v1 x && eqb e.v2 y) (eqb e.v1 y && eqb e.v2 x)

swapped_has : (e : Edge) (f : Face) → has e (swapped f) ≡ has e f
unfolding has any
swapped_has e f =
    let a = ap bit (flip e f.b f.a) in
    let b = ap bit (flip e f.a f.c) in
    let c = ap bit (flip e f.c f.b) in
    let n : count (same e) (edges_of (swapped f)) ≡ count (same e) (edges_of f) = omega arith in
    ap (ltb 0) n

swapped_count : (p : ℕ → Bool) (f : Face) → count p (points_of (swapped f)) ≡ count p (points_of f)
swapped_count p f = omega arith

swapped_touches : (x : ℕ) (f : Face) → touches x (swapped f) ≡ touches x f
unfolding touches any
swapped_touches x f = ap (ltb 0) (swapped_count (eqb x) f)

-- a test that does not tell a face from the swapped one
module _ (p : Face → Bool) (alike : (f : Face) → p (swapped f) ≡ p f) where
  alike_face : (b : Bool) (f : Face) → p (turned_face b f) ≡ p f
  alike_face true f = alike f
  alike_face false f = refl

  alike_count : (parent : ℕ → ℕ) (k : ℕ) (fs : List Face) → count p (turned_from parent k fs) ≡ count p fs
  unfolding turned_from
  alike_count parent k [] = refl
  alike_count parent k (f ∷ fs) =
      let a = ap bit (alike_face (looks_in parent k) f) in
      let ih = alike_count parent (suc k) fs in
      omega arith

-- ---- the list of faces
module _ (parent : ℕ → ℕ) where
  pub turned_length : (k : ℕ) (fs : List Face) → length (turned_from parent k fs) ≡ length fs
  unfolding turned_from
  turned_length k [] = refl
  turned_length k (f ∷ fs) = ap suc (turned_length (suc k) fs)

  pub turned_at : (k : ℕ) (fs : List Face) (i : ℕ) → i < length fs → face_at (turned_from parent k fs) i ≡ turned_face (looks_in parent (k + i)) (face_at fs i)
  unfolding turned_from
  turned_at k [] i h = absurd (omega arith)
  turned_at k (f ∷ fs) zero h = let e : k ≡ k + 0 = omega arith in ap (λ (j : ℕ). turned_face (looks_in parent j) f) e
  turned_at k (f ∷ fs) (suc i) h = let e : suc k + i ≡ k
      + suc i = omega arith in turned_at (suc k) fs i (omega arith) ∙ ap (λ (j : ℕ). turned_face (looks_in parent j) (face_at fs i)) e

  turned_take : (k : ℕ) (fs : List Face) (i : ℕ) → take i (turned_from parent k fs) ≡ turned_from parent k (take i fs)
  unfolding turned_from
  turned_take k fs zero = refl
  turned_take k [] (suc i) = refl
  turned_take k (f ∷ fs) (suc i) = ap (λ (l : List Face). turned_face (looks_in parent k) f ∷ l) (turned_take (suc k) fs i)

  pub turned_touched : (x : ℕ) (k : ℕ) (fs : List Face) → count (touches x) (turned_from parent k fs) ≡ count (touches x) fs
  turned_touched x k fs = alike_count (touches x) (swapped_touches x) parent k fs

  pub turned_lies : (e : Edge) (k : ℕ) (fs : List Face) → count (has e) (turned_from parent k fs) ≡ count (has e) fs
  turned_lies e k fs = alike_count (has e) (swapped_has e) parent k fs

  any_touched : (x : ℕ) (k : ℕ) (fs : List Face) → any (touches x) (turned_from parent k fs) ≡ any (touches x) fs
  unfolding any
  any_touched x k fs = ap (ltb 0) (turned_touched x k fs)

  any_lies : (e : Edge) (k : ℕ) (fs : List Face) → any (has e) (turned_from parent k fs) ≡ any (has e) fs
  unfolding any
  any_lies e k fs = ap (ltb 0) (turned_lies e k fs)

  -- as many new points
  new_same : (earlier : List Face) (b : Bool) (f : Face) → new_points (turned_from parent 0 earlier) (turned_face b f) ≡ new_points earlier f
  unfolding new_points
  new_same earlier b f =
      count_ext (λ x. not (any (touches x) (turned_from parent 0 earlier))) (λ x. not (any (touches x) earlier)) (λ x. ap not (any_touched x 0 earlier))
      (points_of (turned_face b f))
      ∙ points_same b (λ x. not (any (touches x) earlier))
    where
      points_same : (b : Bool) (p : ℕ → Bool) → count p (points_of (turned_face b f)) ≡ count p (points_of f)
      points_same true p = swapped_count p f
      points_same false p = refl

  turned_laid : (seed : Bool) (earlier : List Face) (b : Bool) (f : Face) → Laid seed earlier f → Laid seed (turned_from parent 0 earlier) (turned_face b f)
  turned_laid seed earlier b f h = record {
    different = differ b;
    seed_new = λ t. new_same earlier b f ∙ h.seed_new t;
    other_new = λ t. new_same earlier b f ∙ h.other_new t;
    other_shares = λ t.
        let w = h.other_shares t in
        (w.0, alike_face (has w.0) (swapped_has w.0) b f ∙ w.1, any_lies w.0 0 earlier ∙ w.2);
  }
    where
      differ : (b : Bool) → ((turned_face b f).a ≢ (turned_face b f).b) × ((turned_face b f).b ≢ (turned_face b f).c) × ((turned_face b f).c ≢ (turned_face b f).a)
      differ true = let d = h.different in (λ e. d.0 (sym e), λ e. d.2 (sym e), λ e. d.1 (sym e))
      differ false = h.different

  pub turned_shape : (fs : List Face) (flags : List Bool) (F S looks pivots : ℕ) → Shape fs flags F S looks pivots
      → Shape (turned_from parent 0 fs) flags F S looks pivots
  turned_shape fs flags F S looks pivots h = record {
    number = h.number ∙ sym (turned_length 0 fs);
    flagged = h.flagged;
    seeds = h.seeds;
    each = λ i b.
        let here = turned_at 0 fs i (omega (arith, h.number)) in
        subst (λ (g : Face). Laid (get_or flags i false) (take i (turned_from parent 0 fs)) g) (sym here)
        (subst (λ (l : List Face). Laid (get_or flags i false) l (turned_face (looks_in parent (0 + i)) (face_at fs i))) (sym (turned_take 0 fs i))
        (turned_laid (get_or flags i false) (take i fs) (looks_in parent (0 + i)) (face_at fs i) (h.each i b)));
    points = record {
      list = h.points.list;
      once = h.points.once;
      complete = λ x. let c = h.points.complete x in (λ m. any_touched x 0 fs ∙ c.0 m, λ t. c.1 (sym (any_touched x 0 fs) ∙ t));
      many = h.points.many;
    };
    edges = record {
      list = h.edges.list;
      once = h.edges.once;
      complete = λ e. let c = h.edges.complete e in (λ m. any_lies e 0 fs ∙ c.0 m, λ t. c.1 (sym (any_lies e 0 fs) ∙ t));
      many = h.edges.many;
    };
    one_or_two = λ e t.
        let w = h.one_or_two e (sym (any_lies e 0 fs) ∙ t) in
        let n = turned_lies e 0 fs in
        (omega (arith, w.0), omega (arith, w.1));
    looks_count = h.looks_count;
    pivots_count = h.pivots_count;
  }

  -- the same points
  pub turned_inside : (n : ℕ) (fs : List Face) → ((x : ℕ) → any (touches x) fs ≡ true → x < n) → (x : ℕ) → any (touches x) (turned_from parent 0 fs) ≡ true
      → x < n
  turned_inside n fs h x t = h x (sym (any_touched x 0 fs) ∙ t)

-- ---- only the parents of these faces count
pub turned_congr : (p q : ℕ → ℕ) (k : ℕ) (fs : List Face) → ((i : ℕ) → i < k + length fs → p i ≡ q i) → turned_from p k fs ≡ turned_from q k fs
unfolding turned_from
turned_congr p q k [] h = refl
turned_congr p q k (f ∷ fs) h =
    let a : looks_in p k ≡ looks_in q k = looks_in_congr p q k (λ j l. h j (omega arith)) in
    let ih = turned_congr p q (suc k) fs (λ i l. h i (omega arith)) in
    ap₂ (λ (b : Bool) (l : List Face). turned_face b f ∷ l) a ih
