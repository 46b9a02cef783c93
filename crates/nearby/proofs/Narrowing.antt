-- The listed points that pass, inserted in place: what each turn does, and that they are the neighbours without those
-- that don't matter. Assumes nothing.
use Prim.Native.Nat.{ℕ, ◌+◌, ◌*◌, ◌≤◌, ◌<◌}
use mathlib.Core.Path.{◌≡◌, refl, sym, ap, ◌∙◌, subst}
use mathlib.Core.Logic.{◌⊎◌, inl, inr}
use mathlib.Core.Bool.{Bool, true, false, not, ◌&&◌}
use mathlib.Core.List.{List, [], ◌∷◌}
use native.Mathlib.Omega.{arith}
use lib.ListN.{length, take, drop, get_or}
use lib.Dec.{T, eqb}
use lib.Ieee.{Float, lt}
use lib.Ieee.Bits.{is_true}
use Rattle.vector.specs.Vector.{squared, distance}
use Rattle.vector.specs.declared.Point3f.{Point3f}
use Rattle.vector.proofs.Distances.{squared_fits, distance_is}
use Rattle.points.specs.Points.{point_at}
use Rattle.sorting.specs.Insertion.{insert_before}
use Rattle.sorting.specs.Inner.Places.{PartWritten}
use Rattle.sorting.proofs.Insertion.{part_length, part_at}
use Rattle.grid.specs.declared.SpatialGrid.{SpatialGrid}
use Rattle.grid.specs.declared.Cell.{Cell}
use Rattle.grid.specs.Grid.{range_of}
use Rattle.grid.specs.Inner.Looking.{order_of}
use Rattle.grid.specs.Inner.Index.{cell_in, Cells, earlier}
use Rattle.lists.specs.Members.{Below, only, In}
use Rattle.grid.proofs.Sequence.{insert_below, insert_alike}
use Rattle.spatial_hash.specs.declared.Hash.{Hash}
use Rattle.bounds.specs.Inner.Within.{Limit}
use Rattle.sifting.specs.Inner.Sift.{is_within, Sifted}
use Rattle.lists.proofs.Members.{below_none, in_at, only_both, only_count, only_fewer, only_at_most}
use Rattle.sifting.proofs.Parts.{drop_more, word_same, part_step, part_end}
use Rattle.spatial_hash.specs.Inner.Near.{Hashed, NearPlace}
use Rattle.lists.specs.Lists.{count, unused}
use Rattle.lists.proofs.Bools.{and_both}
use Rattle.decisions.specs.declared.Scene.{Scene}
use Rattle.decisions.specs.Decisions.{apart}
use Rattle.nearby.specs.declared.Filter.{Filter}
use Rattle.nearby.specs.Inner.Ready.{SceneHeld, NeighborsListed, SceneKept, used_in_scene, neighbors_listed}
use Rattle.nearby.specs.Inner.Narrow.{insert_passing, in_reach, in_cells, cell_at, passes_filter, Filters, Collected, Narrowed, Sought}
use Rattle.nearby.proofs.Ordered.{insert_all_is}
use Rattle.nearby.proofs.Earlier.{earlier_strict, order_of_sorted, order_of_count, neighbors_only}
use Rattle.nearby.proofs.Keeping.{kept_self, kept_on, cells_kept}

-- ---- one point
module _ (less : ℕ → ℕ → Bool) (test : ℕ → Bool) (k : ℕ) (js xs : List ℕ) where
  insert_skip : test k ≡ false → insert_passing less test xs (k ∷ js) ≡ insert_passing less test xs js
  unfolding insert_passing
  insert_skip h = rw h

  insert_take : test k ≡ true → insert_passing less test xs (k ∷ js) ≡ insert_passing less test (insert_before (less k) k xs) js
  unfolding insert_passing
  insert_take h = rw h

insert_end : (less : ℕ → ℕ → Bool) (test : ℕ → Bool) (xs : List ℕ) → insert_passing less test xs [] ≡ xs
unfolding insert_passing
insert_end less test xs = refl

-- over the kept cells the order is that of the points' own
pub earlier_kept : (indexed : Bool) (g : SpatialGrid) (pts : List Float) (n : ℕ) (w : List ℕ) → Cells g pts n w → (i j : ℕ) → i < n → j < n
    → earlier indexed (cell_in w n) i j ≡ earlier indexed (cell_at g pts) i j
unfolding earlier
earlier_kept indexed g pts n w c i j hi hj = rw (c i hi, c j hj)

-- ---- the loop of `narrow` at the m-th point

-- those of js that pass, inserted into xs
abbrev narrows : Scene → List Float → Filter → List ℕ → List ℕ → List ℕ → List ℕ
narrows s pts f w xs js = insert_passing (earlier s.indexed (cell_at s.grid pts)) (passes_filter s pts (used_in_scene s w) f) xs js

pub record Narrowing (s : Scene) (pts : List Float) (f : Filter) (w₀ w : List ℕ) (found count m : ℕ) : Type 0 where
  pub same : length w ≡ length w₀
  pub most : count ≤ m
  pub inside : m ≤ found
  pub below : Below s.n (neighbors_listed s w count)
  pub unread : drop (4 * s.n + m) w ≡ drop (4 * s.n + m) w₀
  pub rest : narrows s pts f w₀ [] (neighbors_listed s w₀ found) ≡ narrows s pts f w₀ (neighbors_listed s w count) (drop m (neighbors_listed s w₀ found))
  pub kept : SceneKept s w₀ w

module _ {s : Scene} {pts : List Float} {f : Filter} {w₀ : List ℕ} {found : ℕ} where
  pub narrow_start : Narrowing s pts f w₀ w₀ found 0 0
  narrow_start = record { same = refl; most = omega arith; inside = omega arith; below = below_none s.n; unread = refl; rest = refl; kept = kept_self s w₀ }

  module _ (held : SceneHeld s pts w₀) (points : NeighborsListed s w₀ found) {w : List ℕ} {count m : ℕ} (k : Narrowing s pts f w₀ w found count m) where
    pub narrow_end : found ≤ m → Narrowed s pts f w₀ w found count
    narrow_end h = record {
      most = omega (arith, k.most, k.inside);
      same = sym (k.rest ∙ ap (narrows s pts f w₀ (neighbors_listed s w count)) (part_end w₀ (4 * s.n) found m h) ∙ insert_end
          (earlier s.indexed (cell_at s.grid pts)) (passes_filter s pts (used_in_scene s w₀) f) (neighbors_listed s w count));
      kept = k.kept;
    }

    pub narrow_word : get_or w (4 * s.n + m) 0 ≡ get_or w₀ (4 * s.n + m) 0
    narrow_word = word_same w₀ w (4 * s.n + m) k.unread

    pub narrow_below : m < found → get_or w (4 * s.n + m) 0 < s.n
    narrow_below h = subst (λ (j : ℕ). j < s.n) (sym narrow_word) (points.below m h)

    at_point : m < found → narrows s pts f w₀ [] (neighbors_listed s w₀ found)
        ≡ narrows s pts f w₀ (neighbors_listed s w count) (get_or w₀ (4 * s.n + m) 0 ∷ drop (m + 1) (neighbors_listed s w₀ found))
    at_point h = k.rest ∙ ap (narrows s pts f w₀ (neighbors_listed s w count))
        (part_step w₀ (4 * s.n) found m (omega (arith, held.work_long, points.most)) h)

    test_is : {b : Bool} → b ≡ passes_filter s pts (used_in_scene s w) f (get_or w (4 * s.n + m) 0)
        → passes_filter s pts (used_in_scene s w₀) f (get_or w₀ (4 * s.n + m) 0) ≡ b
    test_is e = sym (e ∙ ap (λ (l : List ℕ). passes_filter s pts (take s.n l) f (get_or w (4 * s.n + m) 0)) k.kept.after ∙ ap
        (passes_filter s pts (used_in_scene s w₀) f) narrow_word)

    pub narrow_skip : {b : Bool} → m < found → b ≡ passes_filter s pts (used_in_scene s w) f (get_or w (4 * s.n + m) 0) → b ≡ false
        → Narrowing s pts f w₀ w found count (m + 1)
    narrow_skip h e t = record {
      same = k.same;
      most = omega (arith, k.most);
      inside = omega arith;
      below = k.below;
      unread = drop_more w₀ w (4 * s.n + m) (4 * s.n + (m + 1)) (omega arith) k.unread;
      rest = at_point h ∙ insert_skip (earlier s.indexed (cell_at s.grid pts)) (passes_filter s pts (used_in_scene s w₀) f) (get_or w₀ (4 * s.n + m) 0)
          (drop (m + 1) (neighbors_listed s w₀ found)) (neighbors_listed s w count) (test_is e ∙ t);
      kept = k.kept;
    }

    -- the insertion is by the points' own cells
    inserted_is : (u : List ℕ) → m < found → Cells s.grid pts s.n w₀
        → PartWritten w u (4 * s.n) (count + 1)
        (insert_before (earlier s.indexed (cell_in w s.n) (get_or w (4 * s.n + m) 0)) (get_or w (4 * s.n + m) 0) (neighbors_listed s w count))
        → neighbors_listed s u (count + 1)
        ≡ insert_before (earlier s.indexed (cell_at s.grid pts) (get_or w₀ (4 * s.n + m) 0)) (get_or w₀ (4 * s.n + m) 0) (neighbors_listed s w count)
    inserted_is u h cells r =
        r.inside
        ∙ insert_alike (earlier s.indexed (cell_in w s.n) (get_or w (4 * s.n + m) 0))
        (earlier s.indexed (cell_at s.grid pts) (get_or w (4 * s.n + m) 0)) s.n (get_or w (4 * s.n + m) 0) (neighbors_listed s w count) k.below
        (λ (j : ℕ) (l : j < s.n). earlier_kept s.indexed s.grid pts s.n w (cells_kept s.grid pts s.n w₀ w cells k.kept.before)
        (get_or w (4 * s.n + m) 0) j (narrow_below h) l)
        ∙ ap (λ (v : ℕ). insert_before (earlier s.indexed (cell_at s.grid pts) v) v (neighbors_listed s w count)) narrow_word

    pub narrow_take : {b : Bool} (u : List ℕ) → m < found → Cells s.grid pts s.n w₀ → b ≡ passes_filter s pts (used_in_scene s w) f (get_or w (4 * s.n + m) 0)
        → b ≡ true → length u ≡ length w
        → PartWritten w u (4 * s.n) (count + 1)
        (insert_before (earlier s.indexed (cell_in w s.n) (get_or w (4 * s.n + m) 0)) (get_or w (4 * s.n + m) 0) (neighbors_listed s w count))
        → Narrowing s pts f w₀ u found (count + 1) (m + 1)
    narrow_take u h cells e t l r = record {
      same = l ∙ k.same;
      most = omega (arith, k.most);
      inside = omega arith;
      below = subst (λ (js : List ℕ). Below s.n js) (sym r.inside)
          (insert_below s.n (earlier s.indexed (cell_in w s.n) (get_or w (4 * s.n + m) 0)) (get_or w (4 * s.n + m) 0) (neighbors_listed s w count)
          (narrow_below h) k.below);
      unread = drop_more w u (4 * s.n + (count + 1)) (4 * s.n + (m + 1)) (omega (arith, k.most)) r.above ∙ drop_more w₀ w (4 * s.n + m)
          (4 * s.n + (m + 1)) (omega arith) k.unread;
      rest = at_point h
          ∙ insert_take (earlier s.indexed (cell_at s.grid pts)) (passes_filter s pts (used_in_scene s w₀) f) (get_or w₀ (4 * s.n + m) 0)
          (drop (m + 1) (neighbors_listed s w₀ found)) (neighbors_listed s w count) (test_is e ∙ t)
          ∙ ap (λ (xs : List ℕ). narrows s pts f w₀ xs (drop (m + 1) (neighbors_listed s w₀ found))) (sym (inserted_is u h cells r));
      kept = kept_on k.kept
          (record { before = r.below; after = drop_more w u (4 * s.n + (count + 1)) (5 * s.n) (omega (arith, k.most, points.most)) r.above });
    }

-- ---- what is left are the neighbours, without those that are used or beyond the limit
pub in_reach_lem : (pts : List Float) (used : List ℕ) (p : Point3f) (t : Float) (k : ℕ) → in_reach pts used p t k ≡ true → is_within pts p t k ≡ true
unfolding in_reach
in_reach_lem pts used p t k h = (and_both {p = unused used k} h).1

pub in_unused : (pts : List Float) (used : List ℕ) (p : Point3f) (t : Float) (k : ℕ) → in_reach pts used p t k ≡ true → unused used k ≡ true
unfolding in_reach
in_unused pts used p t k h = (and_both {p = unused used k} h).0

-- whoever is beyond the limit is too far away
beyond : (pts : List Float) (r : Float) (k i : ℕ) (t : Float) → Limit r t → lt t (squared (point_at pts k) (point_at pts i)) ≡ true
    → lt r (distance (point_at pts k) (point_at pts i)) ≡ true
beyond pts r k i t l g =
    ap (lt r) (distance_is (point_at pts k) (point_at pts i))
    ∙ is_true _ (l (squared (point_at pts k) (point_at pts i)) (squared_fits (point_at pts k) (point_at pts i)) (subst T (sym g) tt))

-- a point that is out of reach is used or too far away
pub out_of_reach : (pts : List Float) (used : List ℕ) (r : Float) (a k : ℕ) (t : Float) → Limit r t → in_reach pts used (point_at pts a) t k ≡ false
    → (unused used k ≡ false) ⊎ (lt r (apart pts k a) ≡ true)
unfolding in_reach apart
out_of_reach pts used r a k t l h = go (unused used k) refl (lt t (squared (point_at pts k) (point_at pts a))) refl h
  where
    go : (u : Bool) → unused used k ≡ u → (f : Bool) → lt t (squared (point_at pts k) (point_at pts a)) ≡ f → (u && not f) ≡ false
        → (unused used k ≡ false) ⊎ (lt r (distance (point_at pts k) (point_at pts a)) ≡ true)
    go false e f g h = inl e
    go true e true g h = inr (beyond pts r k a t l g)
    go true e false g h = absurd (let z : ◌≡◌ {A = ℕ} 0 1 = cc in omega arith)

narrowed_only : (s : Scene) (pts : List Float) (f : Filter) (used js : List ℕ) → Below s.n js → ((k : ℕ) → count (eqb k) js ≤ 1)
    → ((k : ℕ) → k < s.n → unused used k ≡ true → is_within pts f.center f.limit k ≡ true → 1 ≤ count (eqb k) js)
    → insert_passing (earlier s.indexed (cell_at s.grid pts)) (passes_filter s pts used f) [] js
    ≡ only (in_reach pts used f.center f.limit)
    (only (in_cells s.indexed s.grid pts f.range f.cell) (order_of s.indexed s.grid pts s.n))
unfolding passes_filter
narrowed_only s pts f used js below once complete =
    let xs : List ℕ = order_of s.indexed s.grid pts s.n in
    insert_all_is (earlier_strict s.indexed (cell_at s.grid pts))
    (λ (k : ℕ). in_reach pts used f.center f.limit k && in_cells s.indexed s.grid pts f.range f.cell k) s.n xs js
    (order_of_sorted s.indexed s.grid pts s.n) (order_of_count s.indexed s.grid pts s.n) once below
    (λ k h t. let i = (and_both {p = in_reach pts used f.center f.limit k} t).0 in complete k h (in_unused pts used f.center f.limit k i)
    (in_reach_lem pts used f.center f.limit k i))
    ∙ sym (only_both (in_reach pts used f.center f.limit) (in_cells s.indexed s.grid pts f.range f.cell) xs)

pub sought : {s : Scene} {pts : List Float} {f : Filter} {w u v : List ℕ} {a found r : ℕ} {p q : Point3f} {radius : Float} → p ≡ point_at pts a
    → Filters s p q radius f
    → Collected s pts f f.center w u found → Narrowed s pts f u v found r → Sought s pts w v a q radius r
sought {s} {pts} {f} {w} {u} {v} {a} {found} {r} {p} {q} {radius} ep i c n = record {
  most = omega (arith, n.most, c.most);
  nearby = record {
    limit = f.limit;
    limits = i.limits;
    same = n.same
        ∙ ap (λ (l : List ℕ). insert_passing (earlier s.indexed (cell_at s.grid pts)) (passes_filter s pts (take s.n l) f) [] (neighbors_listed s u found))
        c.kept.after
        ∙ narrowed_only s pts f (used_in_scene s w) (neighbors_listed s u found) c.below c.once (λ k h free t. c.complete k h free t t)
        ∙ ap (λ (z : Point3f). only (in_reach pts (used_in_scene s w) z f.limit)
        (only (in_cells s.indexed s.grid pts f.range f.cell) (order_of s.indexed s.grid pts s.n))) (i.center_is ∙ ep)
        ∙ ap (λ (z : ℕ). only (in_reach pts (used_in_scene s w) (point_at pts a) f.limit)
        (only (in_cells s.indexed s.grid pts z f.cell) (order_of s.indexed s.grid pts s.n))) i.range_is
        ∙ ap (λ (z : Cell). only (in_reach pts (used_in_scene s w) (point_at pts a) f.limit)
        (only (in_cells s.indexed s.grid pts (range_of s.grid radius) z) (order_of s.indexed s.grid pts s.n))) i.cell_is
        ∙ ap (only (in_reach pts (used_in_scene s w) (point_at pts a) f.limit)) (sym (neighbors_only s.indexed s.grid pts s.n q radius));
  };
  kept = kept_on c.kept n.kept;
}

-- ---- what was gathered
pub near_kept : {s : Scene} {pts : List Float} {p : Point3f} {t : Float} {w u : List ℕ} {r : ℕ} → NearPlace pts s.n p t w u r → SceneKept s w u
near_kept g = record { before = g.before; after = g.after }

module _ {s : Scene} {pts : List Float} {f : Filter} {w u : List ℕ} {found : ℕ} where
  pub collected : {hash : Hash} → Hashed hash pts s.n w → NearPlace pts s.n f.center f.limit w u found → Collected s pts f f.center w u found
  collected h g = record {
    most = g.most;
    below = g.surrounds.below;
    once = g.surrounds.once;
    complete = λ k l free x y. g.surrounds.complete k l (h.unused_in k l free) x;
    kept = near_kept {s = s} g;
  }

  pub collected_both : {q : Point3f} {v : List ℕ} {r : ℕ} → Collected s pts f f.center w u found → Sifted pts s.n q f.limit u v found r
      → Collected s pts f q w v r
  collected_both {q} {v} {r} c x = record {
    most = omega (arith, c.most, x.most);
    below = λ k h. c.below k (only_fewer near k (neighbors_listed s u found) (fewer k h));
    once = λ k. let few = c.once k in let same = ap (count (eqb k)) x.same in omega (arith, only_at_most near k (neighbors_listed s u found));
    complete = λ k l free i j. let same = ap (count (eqb k)) x.same in let all = only_count near k j (neighbors_listed s u found) in omega
        (arith, c.complete k l free i i);
    kept = kept_on c.kept (record { before = x.before; after = x.after });
  }
    where
      near : ℕ → Bool
      near = is_within pts q f.limit

      fewer : (k : ℕ) → In k (neighbors_listed s v r) → In k (only (is_within pts q f.limit) (neighbors_listed s u found))
      fewer k h = subst (λ (l : List ℕ). In k l) x.same h

-- listed numbers below n are points of the cloud
pub below_listed : {s : Scene} {u : List ℕ} {r : ℕ} → 24 * s.n + 64 ≤ length u → r ≤ s.n → Below s.n (neighbors_listed s u r) → NeighborsListed s u r
below_listed {s} {u = u} {r = r} long most below = record {
  most = most;
  below = λ (m : ℕ) (h : m < r).
      let fits : 4 * s.n + r ≤ length u = omega arith in
      subst (λ (k : ℕ). k < s.n) (part_at u (4 * s.n) r fits m 0 h)
      (below (get_or (neighbors_listed s u r) m 0) (in_at (neighbors_listed s u r) m (omega (arith, part_length u (4 * s.n) r fits))));
}

-- as the collected points are
pub collected_listed : {s : Scene} {pts : List Float} {f : Filter} {q : Point3f} {w u : List ℕ} {r : ℕ} → 24 * s.n + 64 ≤ length u → Collected s pts f q w u r
    → NeighborsListed s u r
collected_listed {s} {u = u} long c = below_listed {s = s} {u = u} long c.most c.below
