-- What the tests of a triple say of the definition's neighbours, and that whoever is not gathered makes no triple.
-- Assumes nothing.
use Prim.Native.Nat.{ℕ, ◌+◌, ◌≤◌, ◌<◌}
use mathlib.Core.Path.{◌≡◌, refl, sym, ap, ◌∙◌, subst}
use mathlib.Core.Logic.{◌≢◌, ⊎_elim}
use mathlib.Core.Bool.{Bool, true, false, not, ◌&&◌, ◌||◌}
use mathlib.Core.List.{List, [], ◌∷◌}
use native.Mathlib.Omega.{arith}
use lib.Dec.{T, eqb, ltb}
use lib.ListN.{length, take}
use lib.Ieee.{Float, lt}
use lib.Ieee.Bits.{is_true}
use borrow.Author.Tests.{eqb-true, eqb-false, lt-ltb}
use Rattle.vector.specs.Vector.{squared, distance}
use Rattle.vector.specs.declared.Point3f.{Point3f}
use Rattle.vector.proofs.Distances.{squared_fits}
use Rattle.points.specs.Points.{point_at}
use Rattle.lists.specs.Lists.{bit, count, any, unused}
use Rattle.lists.specs.Members.{In, only}
use Rattle.lists.proofs.Bools.{either, not-true, true_not_false, and_both}
use Rattle.lists.proofs.Counts.{any_true, true_any, count_mono}
use Rattle.lists.proofs.Members.{in_head, only_count, only_none}
use Rattle.bounds.specs.Inner.Within.{Limit}
use Rattle.sifting.specs.Inner.Sift.{is_within}
use Rattle.grid.specs.declared.Cell.{Cell}
use Rattle.grid.specs.Grid.{in_range, range_of}
use Rattle.grid.specs.Inner.Looking.{order_of}
use Rattle.grid.specs.Inner.Index.{cell_in}
use Rattle.spatial_hash.specs.declared.Hash.{Hash}
use Rattle.spatial_hash.proofs.Squares.{distance_back}
use Rattle.decisions.specs.declared.Scene.{Scene}
use Rattle.decisions.specs.Decisions.{reach, apart, is_close, around, floats_of}
use Rattle.decisions.proofs.Within.{within}
use Rattle.nearby.specs.declared.Filter.{Filter}
use Rattle.nearby.specs.Inner.Ready.{SceneHeld, NeighborsListed, SceneKept, neighbors_listed, nth}
use Rattle.nearby.specs.Inner.Narrow.{in_cells, cell_at, Filters, Collected}
use Rattle.nearby.proofs.Earlier.{neighbors_only, order_of_count}
use Rattle.nearby.proofs.Keeping.{held_kept, cells_kept, hashed_search}
use Rattle.nearby.proofs.Rest.{Rest, rest_start, rest_step, rest_hit, rest_end}
use Rattle.reaching.specs.Reaching.{reaches}
use Rattle.reaching.specs.Triple.{Reaches}
use Rattle.reaching.proofs.Reaching.{both_true, differ, differs, reaches_exactly}
use Rattle.judged.specs.Inner.Triples.{is_beside, is_beside_both, has_third, FilterAround, Fresh, TellsFirst}

-- ---- lists
member : (p : ℕ → Bool) (xs : List ℕ) → 1 ≤ count p xs → (x : ℕ) × (In x xs × (p x ≡ true))
member p [] h = absurd (omega arith)
member p (y ∷ ys) h = go (p y) refl (member p ys)
  where
    go : (b : Bool) → p y ≡ b → (1 ≤ count p ys → (x : ℕ) × (In x ys × (p x ≡ true))) → (x : ℕ) × (In x (y ∷ ys) × (p x ≡ true))
    go true e later = (y, (in_head y ys, e))
    go false e later =
        let z : bit (p y) ≡ 0 = ap bit e in
        let r = later (omega arith) in
        (r.0, (omega (arith, r.1.0), r.1.1))

any_member : (p : ℕ → Bool) (xs : List ℕ) → any p xs ≡ true → (x : ℕ) × (In x xs × (p x ≡ true))
any_member p xs h = member p xs (any_true p xs h)

member_any : (p : ℕ → Bool) (x : ℕ) (xs : List ℕ) → In x xs → p x ≡ true → any p xs ≡ true
member_any p x xs m h =
    let l = count_mono (eqb x) p (λ y t. subst (λ (z : ℕ). p z ≡ true) (eqb-true x y t) h) xs in
    true_any p xs (omega arith)

-- ---- a loop that stops at the first that passes
module _ (p : ℕ → Bool) where
  any_none : any p [] ≡ false
  unfolding any
  any_none = refl

  any_hit : (x : ℕ) (xs : List ℕ) → p x ≡ true → any p (x ∷ xs) ≡ true
  any_hit x xs h = member_any p x (x ∷ xs) (in_head x xs) h

  any_miss : (x : ℕ) (xs : List ℕ) → p x ≡ false → any p (x ∷ xs) ≡ any p xs
  unfolding any
  any_miss x xs h =
      let z : bit (p x) ≡ 0 = ap bit h in
      let e : count p (x ∷ xs) ≡ count p xs = omega arith in
      ap (ltb 0) e

-- what is among all that are listed is among those from the m-th on
abbrev pub Seeking : (ℕ → Bool) → Scene → List ℕ → ℕ → ℕ → Type 0
Seeking p s w count m = Rest s w count (any p (neighbors_listed s w count)) (any p) m

module _ (p : ℕ → Bool) {s : Scene} {w : List ℕ} {count : ℕ} where
  pub seek_start : {pts : List Float} → SceneHeld s pts w → NeighborsListed s w count → Seeking p s w count 0
  seek_start h l = rest_start h l (any p)

  pub seek_hit : {m x : ℕ} {b : Bool} → Seeking p s w count m → m < count → x ≡ nth s w m → b ≡ p x → b ≡ true → true ≡ any p (neighbors_listed s w count)
  seek_hit {x = x} k h q e t = sym (rest_hit k h q (λ ks. any_hit p x ks (sym e ∙ t)))

  pub seek_miss : {m x : ℕ} {b : Bool} → Seeking p s w count m → m < count → x ≡ nth s w m → b ≡ p x → b ≡ false → Seeking p s w count (m + 1)
  seek_miss {x = x} k h q e t = rest_step k h q (any p) (λ ks. any_miss p x ks (sym e ∙ t))

  pub seek_end : {m : ℕ} → Seeking p s w count m → count ≤ m → false ≡ any p (neighbors_listed s w count)
  seek_end k h = sym (rest_end k h ∙ any_none p)

-- ---- neighbours are told by their cells
module _ (s : Scene) (pts : List Float) (r : Float) (i : ℕ) where
  abbrev in_cell : ℕ → Bool
  in_cell k = in_cells s.indexed s.grid pts (range_of s.grid (reach r)) (cell_at s.grid pts i) k

  abbrev near : List ℕ
  near = (floats_of s pts).near r i

  near_only : near ≡ only in_cell (order_of s.indexed s.grid pts s.n)
  unfolding floats_of around
  near_only = neighbors_only s.indexed s.grid pts s.n (point_at pts i) (reach r)

  near_cell : (k : ℕ) → In k near → in_cell k ≡ true
  near_cell k h = ⊎_elim
      (λ (t : in_cell k ≡ true). t)
      (λ (t : in_cell k ≡ false).
      let z = only_none in_cell k t (order_of s.indexed s.grid pts s.n) in
      absurd (omega (arith, ap (count (eqb k)) near_only)))
      (either (in_cell k))

  cell_near : (k : ℕ) → k < s.n → in_cell k ≡ true → In k near
  cell_near k h t =
      let z = only_count in_cell k t (order_of s.indexed s.grid pts s.n) in
      let o = order_of_count s.indexed s.grid pts s.n k in
      let b : bit (ltb k s.n) ≡ 1 = ap bit (lt-ltb k s.n h) in
      omega (arith, ap (count (eqb k)) near_only)

  near_below : (k : ℕ) → In k near → k < s.n
  near_below = (within s pts).near_below r i

  -- ---- the tests, taken apart and put together
  pub record Beside (k : ℕ) : Type 0 where
    pub other : i ≢ k
    pub neighbour : In k near
    pub close : is_close pts r i k ≡ true

  beside_is : (k : ℕ) → k < s.n → is_beside s pts r i k ≡ true → Beside k
  unfolding is_beside
  beside_is k h t =
      let a = and_both {p = not (eqb i k)} t in
      let b = and_both {p = in_cell k} a.1 in
      record { other = differ i k a.0; neighbour = cell_near k h b.0; close = b.1 }

  is_beside_lem : (k : ℕ) → Beside k → is_beside s pts r i k ≡ true
  unfolding is_beside
  is_beside_lem k b =
      both_true (not (eqb i k)) (in_cell k && is_close pts r i k) (differs i k b.other)
      (both_true (in_cell k) (is_close pts r i k) (near_cell k b.neighbour) b.close)

-- what the kept cells tell is what the points' own do
pub near_is : {s : Scene} {pts : List Float} {w : List ℕ} {r : Float} {f : Filter} {i k : ℕ} {b : Bool} → FilterAround s pts w r f i → k < s.n
    → b ≡ (not s.indexed || in_range f.range f.cell (cell_in w s.n k)) → b ≡ in_cell s pts r i k
unfolding in_cells
near_is {s} {pts} {w} {r} {f} {i} {k} a h e =
    e
    ∙ ap (λ (c : Cell). not s.indexed || in_range f.range f.cell c) (a.cells k h)
    ∙ ap (λ (c : Cell). not s.indexed || in_range f.range c (cell_at s.grid pts k)) a.filters.cell_is
    ∙ ap (λ (m : ℕ). not s.indexed || in_range m (cell_at s.grid pts i) (cell_at s.grid pts k)) a.filters.range_is

-- ---- whoever is close is within the limit
close_within : (pts : List Float) (r t : Float) (i k : ℕ) → Limit (reach r) t → is_close pts r i k ≡ true → is_within pts (point_at pts i) t k ≡ true
unfolding is_close apart
close_within pts r t i k l h = ap not (not-true (λ (g : lt t (squared (point_at pts k) (point_at pts i)) ≡ true).
    let far : T (lt (reach r) (distance (point_at pts i) (point_at pts k))) =
    subst (λ (d : Float). T (lt (reach r) d)) (sym (distance_back (point_at pts i) (point_at pts k)))
    (l (squared (point_at pts k) (point_at pts i)) (squared_fits (point_at pts k) (point_at pts i)) (subst T (sym g) tt)) in
    true_not_false h (ap not (is_true (lt (reach r) (distance (point_at pts i) (point_at pts k))) far))))

-- ---- the answer for one first point
module _ {s : Scene} {hash : Hash} {pts : List Float} {w u : List ℕ} (r : Float) {f : Filter} {found : ℕ} (i : ℕ)
    (fresh : Fresh s hash pts w) (inside : i < s.n) (tried : i < 1000) (filters : Filters s (point_at pts i) (point_at pts i) (reach r) f)
    (all : Collected s pts f f.center w u found) where
  abbrev ks : List ℕ
  ks = neighbors_listed s u found

  gathered : (k : ℕ) → Beside s pts r i k → In k ks
  gathered k b =
      let h = near_below s pts r i k b.neighbour in
      let t = subst (λ (p : Point3f). is_within pts p f.limit k ≡ true) (sym filters.center_is)
      (close_within pts r f.limit i k filters.limits b.close) in
      all.complete k h (fresh.none_used k) t t

  some_found : any (has_third s pts r ks i) ks ≡ true → Reaches (floats_of s pts) s.n r
  unfolding has_third is_beside_both floats_of
  some_found h =
      let second = any_member (has_third s pts r ks i) ks h in
      let j = second.0 in
      let a = and_both {p = is_beside s pts r i j} second.1.1 in
      let third = any_member (is_beside_both s pts r i j) ks a.1 in
      let k = third.0 in
      let b = and_both {p = not (eqb j k)} third.1.1 in
      let d = and_both {p = is_beside s pts r i k} b.1 in
      let x = beside_is s pts r i j (all.below j second.1.0) a.0 in
      let y = beside_is s pts r i k (all.below k third.1.0) d.0 in
      record {
        i = i;
        j = j;
        k = k;
        point = inside;
        tried = tried;
        differ = (x.other, y.other, differ j k b.0);
        second = x.neighbour;
        third = y.neighbour;
        close_ij = x.close;
        close_ik = y.close;
        close_jk = d.1;
      }

  none_found : any (has_third s pts r ks i) ks ≡ false → (t : Reaches (floats_of s pts) s.n r) → t.i ≡ i → ⊥
  unfolding has_third is_beside_both floats_of
  none_found h t e =
      let x : Beside s pts r i t.j = subst (λ (l : ℕ). Beside s pts r l t.j) e
      (record { other = t.differ.0; neighbour = t.second; close = t.close_ij }) in
      let y : Beside s pts r i t.k = subst (λ (l : ℕ). Beside s pts r l t.k) e
      (record { other = t.differ.1; neighbour = t.third; close = t.close_ik }) in
      let both : is_beside_both s pts r i t.j t.k ≡ true =
      both_true (not (eqb t.j t.k)) (is_beside s pts r i t.k && is_close pts r t.j t.k) (differs t.j t.k t.differ.2)
      (both_true (is_beside s pts r i t.k) (is_close pts r t.j t.k) (is_beside_lem s pts r i t.k y) t.close_jk) in
      let one : has_third s pts r ks i t.j ≡ true =
      both_true (is_beside s pts r i t.j) (any (is_beside_both s pts r i t.j) ks) (is_beside_lem s pts r i t.j x)
      (member_any (is_beside_both s pts r i t.j) t.k ks (gathered t.k y) both) in
      true_not_false (member_any (has_third s pts r ks i) t.j ks (gathered t.j x) one) h

  pub first_told : {b : Bool} → b ≡ any (has_third s pts r ks i) ks → TellsFirst s pts r i b
  first_told e = record { some = λ t. some_found (sym e ∙ t); none = λ t. none_found (sym e ∙ t) }

-- ---- the first points in turn
pub fresh_kept : {s : Scene} {hash : Hash} {pts : List Float} {w : List ℕ} (u : List ℕ) → Fresh s hash pts w → length u ≡ length w → SceneKept s w u
    → Fresh s hash pts u
fresh_kept {s} {pts = pts} {w = w} u g l k = record {
  held = held_kept u g.held l;
  cells = cells_kept s.grid pts s.n w u g.cells k.before;
  hashed = hashed_search {s = s} u g.hashed l k;
  none_used = λ j. subst (λ (l : List ℕ). unused (take s.n l) j ≡ true) (sym k.after) (g.none_used j);
}

-- no triple is judged in which a point below i comes first
pub record Asked (s : Scene) (hash : Hash) (pts : List Float) (r : Float) (w₀ w : List ℕ) (i : ℕ) : Type 0 where
  pub fresh : Fresh s hash pts w
  pub words : length w ≡ length w₀
  pub none : (t : Reaches (floats_of s pts) s.n r) → t.i < i → ⊥

module _ {s : Scene} {hash : Hash} {pts : List Float} {r : Float} {w₀ : List ℕ} where
  pub ask_start : Fresh s hash pts w₀ → Asked s hash pts r w₀ w₀ 0
  ask_start g = record { fresh = g; words = refl; none = λ t h. omega arith }

  module _ {w : List ℕ} {i : ℕ} (so_far : Asked s hash pts r w₀ w i) where
    pub ask_next : {b : Bool} (u : List ℕ) → TellsFirst s pts r i b → b ≡ false → SceneKept s w u → length u ≡ length w → Asked s hash pts r w₀ u (i + 1)
    ask_next u tells e k l = record {
      fresh = fresh_kept u so_far.fresh l k;
      words = l ∙ so_far.words;
      none = λ t h. ⊎_elim
          (λ (q : eqb t.i i ≡ true). tells.none e t (eqb-true t.i i q))
          (λ (q : eqb t.i i ≡ false). let d = eqb-false t.i i q in so_far.none t (omega arith))
          (either (eqb t.i i));
    }

    pub ask_none : ((t : Reaches (floats_of s pts) s.n r) → t.i < i) → false ≡ reaches (floats_of s pts) s.n r
    ask_none h = sym (not-true (λ q. let t = (reaches_exactly (floats_of s pts) s.n r).0 q in so_far.none t (h t)))

pub ask_some : {s : Scene} {pts : List Float} {r : Float} {i : ℕ} {b : Bool} → TellsFirst s pts r i b → b ≡ true → true ≡ reaches (floats_of s pts) s.n r
ask_some {s} {pts} {r} tells e = sym ((reaches_exactly (floats_of s pts) s.n r).1 (tells.some e))
