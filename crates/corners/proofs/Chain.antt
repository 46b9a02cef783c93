-- The corners at a point, from the last one down. Assumes nothing.
use Prim.Native.Nat.{ℕ, zero, suc, ◌+◌, ◌*◌, ◌≤◌, ◌<◌}
use mathlib.Core.Path.{◌≡◌, refl, sym, ap, ◌∙◌}
use mathlib.Core.Logic.{◌≢◌, ◌⊎◌, inl, ⊎_elim}
use mathlib.Core.Bool.{true, false}
use mathlib.Core.List.{List}
use native.Mathlib.Numerals.{add-one}
use native.Mathlib.Omega.{arith}
use lib.Dec.{eqb}
use lib.ListN.{length, set, get_or, length-set}
use lib.Seq.{get_or-set_same, get_or-set_other}
use borrow.Author.Tests.{eqb-true, eqb-false, eq-eqb}
use Rattle.lists.specs.Lists.{bit}
use Rattle.lists.proofs.Bools.{either}
use Rattle.lists.proofs.Counts.{true_any, false_any}
use Rattle.patch.specs.Lay.{Face, points_of}
use Rattle.patch.specs.Shape.{touches}
use Rattle.regions.specs.Inner.Ordering.{corners_at, heads_at, heads_end}
use Rattle.corners.specs.Corners.{last_at, CornersLinked, Bound, Links}

module _ (corner : ℕ → ℕ) (x : ℕ) where
  pub last_here : (k : ℕ) → eqb x (corner k) ≡ true → last_at corner x (suc k) ≡ suc k
  unfolding last_at
  last_here k h = rw (h, last_at)

  pub last_past : (k : ℕ) → eqb x (corner k) ≡ false → last_at corner x (suc k) ≡ last_at corner x k
  unfolding last_at
  last_past k h = rw (h, last_at)

  pub last_le : (k : ℕ) → last_at corner x k ≤ k
  unfolding last_at
  last_le zero = omega arith
  last_le (suc k) = ⊎_elim
      (λ (t : eqb x (corner k) ≡ true). rw (last_here k t) (omega arith))
      (λ (t : eqb x (corner k) ≡ false). let ih = last_le k in rw (last_past k t) (omega arith))
      (either (eqb x (corner k)))

  -- it is at the point
  pub last_at_lem : (k j : ℕ) → last_at corner x k ≡ suc j → corner j ≡ x
  unfolding last_at
  last_at_lem zero j e = absurd (omega arith)
  last_at_lem (suc k) j e = ⊎_elim
      (λ (t : eqb x (corner k) ≡ true).
      let same : j ≡ k = let q = sym e ∙ last_here k t in omega arith in
      rw same (sym (eqb-true x (corner k) t)))
      (λ (t : eqb x (corner k) ≡ false). last_at_lem k j (sym (last_past k t) ∙ e))
      (either (eqb x (corner k)))

  -- and none from there on is
  pub last_none : (k t : ℕ) → last_at corner x k ≤ t → t < k → corner t ≢ x
  unfolding last_at
  last_none zero t l m e = omega arith
  last_none (suc k) t l m e = ⊎_elim
      (λ (h : eqb x (corner k) ≡ true). let q = last_here k h in omega arith)
      (λ (h : eqb x (corner k) ≡ false).
      let q = last_past k h in
      ⊎_elim
      (λ (s : eqb t k ≡ true). eqb-false x (corner k) h (sym e ∙ ap corner (eqb-true t k s)))
      (λ (s : eqb t k ≡ false).
      let ne : t ≢ k = eqb-false t k s in
      last_none k t (omega arith) (omega arith) e)
      (either (eqb t k)))
      (either (eqb x (corner k)))

-- ---- linking, corner by corner
module _ (n sides : ℕ) (before : List ℕ) where
  abbrev corner : ℕ → ℕ
  corner s = get_or before s 0

  -- the corners below s are linked
  pub record Partly (s : ℕ) (w : List ℕ) : Type 0 where
    pub heads : (x : ℕ) → x < n → get_or w (heads_at n + x) 0 ≡ last_at corner x s
    pub links : (t : ℕ) → t < s → get_or w (corners_at n + t) 0 ≡ last_at corner (corner t) t
    pub outside : (k : ℕ) → (k < corners_at n) ⊎ (heads_end n ≤ k) → get_or w k 0 ≡ get_or before k 0

  pub partly_start : ((x : ℕ) → x < n → get_or before (heads_at n + x) 0 ≡ 0) → Partly 0 before
  unfolding last_at
  partly_start h = record { heads = h; links = λ t l. absurd (omega arith); outside = λ k s. refl }

  module _ (room : heads_end n ≤ length before) (few : sides ≤ 3 * n) (below : (s : ℕ) → s < sides → corner s < n) where
    pub partly_step : (s : ℕ) (w : List ℕ) → length w ≡ length before → s < sides → Partly s w
        → Partly (s + 1) (set (set w (3 * n + s) (get_or w (6 * n + get_or w s 0) 0)) (6 * n + get_or w s 0) (s + 1))
    partly_step s w long l p = rw is (record {
      heads = λ x m. ⊎_elim
          (λ (t : eqb x (corner s) ≡ true).
          let e = eqb-true x (corner s) t in
          rw e (get_or-set_same w1 (6 * n + corner s) (s + 1) 0 (omega (arith, length-set w (3 * n + s) (get_or w (6 * n + corner s) 0)))
          ∙ add-one s ∙ sym (last_here corner (corner s) s (eq-eqb (corner s) (corner s) refl)) ∙ ap (last_at corner (corner s)) (sym (add-one s))))
          (λ (t : eqb x (corner s) ≡ false).
          let ne = eqb-false x (corner s) t in
          get_or-set_other w1 (6 * n + corner s) (6 * n + x) (s + 1) 0 (λ (q : 6 * n + x ≡ 6 * n + corner s). ne (omega arith))
          ∙ get_or-set_other w (3 * n + s) (6 * n + x) (get_or w (6 * n + corner s) 0) 0 (λ (q : 6 * n + x ≡ 3 * n + s). omega arith)
          ∙ p.heads x m ∙ sym (last_past corner x s t) ∙ ap (last_at corner x) (sym (add-one s)))
          (either (eqb x (corner s)));
      links = λ t m. ⊎_elim
          (λ (h : eqb t s ≡ true).
          rw (eqb-true t s h) (get_or-set_other w1 (6 * n + corner s) (3 * n + s) (s + 1) 0 (λ (q : 3 * n + s ≡ 6 * n + corner s). omega arith)
          ∙ get_or-set_same w (3 * n + s) (get_or w (6 * n + corner s) 0) 0 (omega arith)
          ∙ p.heads (corner s) at))
          (λ (h : eqb t s ≡ false).
          let ne : t ≢ s = eqb-false t s h in
          get_or-set_other w1 (6 * n + corner s) (3 * n + t) (s + 1) 0 (λ (q : 3 * n + t ≡ 6 * n + corner s). omega arith)
          ∙ get_or-set_other w (3 * n + s) (3 * n + t) (get_or w (6 * n + corner s) 0) 0 (λ (q : 3 * n + t ≡ 3 * n + s). ne (omega arith))
          ∙ p.links t (omega arith))
          (either (eqb t s));
      outside = λ k o.
          get_or-set_other w1 (6 * n + corner s) k (s + 1) 0
          (⊎_elim (λ (a : k < 3 * n) (q : k ≡ 6 * n + corner s). omega arith) (λ (a : 7 * n ≤ k) (q : k ≡ 6 * n + corner s). omega (arith, at)) o)
          ∙ get_or-set_other w (3 * n + s) k (get_or w (6 * n + corner s) 0) 0
          (⊎_elim (λ (a : k < 3 * n) (q : k ≡ 3 * n + s). omega arith) (λ (a : 7 * n ≤ k) (q : k ≡ 3 * n + s). omega arith) o)
          ∙ p.outside k o;
    })
      where
        is : get_or w s 0 ≡ corner s
        is = p.outside s (inl (omega arith))

        at : corner s < n
        at = below s l

        w1 : List ℕ
        w1 = set w (3 * n + s) (get_or w (6 * n + corner s) 0)

    pub partly_point : (s : ℕ) (w : List ℕ) → s < sides → Partly s w → get_or w s 0 < n
    partly_point s w l p = rw (p.outside s (inl (omega arith))) (below s l)

    pub partly_end : (w : List ℕ) → Partly sides w → Links n sides before w
    partly_end w p = record {
      linked = record { corners = λ s l. p.outside s (inl (omega arith)); heads = p.heads; links = p.links };
      bound = record {
        points = λ s l. rw (p.outside s (inl (omega arith))) (below s l);
        heads = λ x l. rw (p.heads x l) (last_le corner x sides);
        links = λ s l. rw (p.links s l) (last_le corner (corner s) s);
      };
      outside = p.outside;
    }

-- what is linked stays so while the words up to the end of the heads do
module _ (n sides : ℕ) (few : sides ≤ 3 * n) (v w : List ℕ) (same : (k : ℕ) → k < heads_end n → get_or w k 0 ≡ get_or v k 0) where
  pub linked_same : (corner : ℕ → ℕ) → CornersLinked n sides corner v → CornersLinked n sides corner w
  linked_same corner h = record {
    corners = λ s l. same s (omega arith) ∙ h.corners s l;
    heads = λ x l. same (heads_at n + x) (omega arith) ∙ h.heads x l;
    links = λ s l. same (corners_at n + s) (omega arith) ∙ h.links s l;
  }

  pub bound_same : Bound n sides v → Bound n sides w
  bound_same h = record {
    points = λ s l. rw (same s (omega arith)) (h.points s l);
    heads = λ x l. rw (same (heads_at n + x) (omega arith)) (h.heads x l);
    links = λ s l. rw (same (corners_at n + s) (omega arith)) (h.links s l);
  }

-- ---- a face's points, asked one by one
module _ (x : ℕ) (f : Face) where
  pub touches_first : eqb x f.a ≡ true → touches x f ≡ true
  unfolding touches
  touches_first h = let o : bit (eqb x f.a) ≡ 1 = ap bit h in true_any (eqb x) (points_of f) (omega arith)

  pub touches_second : eqb x f.b ≡ true → touches x f ≡ true
  unfolding touches
  touches_second h = let o : bit (eqb x f.b) ≡ 1 = ap bit h in true_any (eqb x) (points_of f) (omega arith)

  pub touches_third : eqb x f.a ≡ false → eqb x f.b ≡ false → touches x f ≡ eqb x f.c
  unfolding touches
  touches_third h k =
      let a : bit (eqb x f.a) ≡ 0 = ap bit h in
      let b : bit (eqb x f.b) ≡ 0 = ap bit k in
      ⊎_elim
      (λ (t : eqb x f.c ≡ true). let o : bit (eqb x f.c) ≡ 1 = ap bit t in true_any (eqb x) (points_of f) (omega arith) ∙ sym t)
      (λ (t : eqb x f.c ≡ false). let o : bit (eqb x f.c) ≡ 0 = ap bit t in false_any (eqb x) (points_of f) (omega arith) ∙ sym t)
      (either (eqb x f.c))
