-- The roots of the least squares are the least distances of the definition. Assumes nothing.
use mathlib.Core.Path.{◌≡◌, refl, sym, ap, ◌∙◌, subst}
use mathlib.Core.Bool.{Bool, true, false, cond, not, ◌&&◌}
use mathlib.Core.List.{List, [], ◌∷◌, map}
use Prim.Native.Nat.{ℕ, zero, suc, ◌+◌, ◌≤◌, ◌<◌}
use native.Mathlib.Omega.{arith}
use borrow.Author.Tests.{ltb-true, ltb-false, lt-ltb, le-ltb, eqb-true, eqb-false}
use lib.Dec.{eqb, ltb}
use lib.ListN.{take}
use lib.Ieee.{Float}
use Rattle.numbers.specs.Rounded.{f32, ◌⊗◌}
use Rattle.numbers.specs.Root.{root}
use Rattle.vector.specs.Inner.Numbers.{Finite}
use Rattle.points.specs.Points.{point_at}
use Rattle.lists.specs.Lists.{up_from, bit}
use Rattle.sorting.specs.Sorted.{sorted}
use Rattle.sorting.specs.Each.{All}
use Rattle.sorting.proofs.Rising.{all_take}
use Rattle.sorting.proofs.Counting.{insert_count}
use Rattle.settings.specs.declared.BallPivotingConfig.{BallPivotingConfig}
use Rattle.grid.specs.declared.SpatialGrid.{SpatialGrid}
use Rattle.grid.specs.Grid.{precedes_by_cell, by_cell}
use Rattle.grid.specs.Inner.Looking.{order_of}
use Rattle.grid.specs.Inner.Index.{CellsIndexed, keep_in}
use Rattle.grid.proofs.Near.{near_is}
use Rattle.spatial_hash.proofs.Squares.{Good, distance_back}
use Rattle.spatial_hash.proofs.Nearby.{up_whole}
use Rattle.neighbor_squares.specs.declared.Around.{Around}
use Rattle.neighbor_squares.specs.Inner.Squares.{is_neighbor_cell, squares_to, least_squares, Whole}
use Rattle.neighbor_squares.proofs.Rising.{sorted_good, roots_good, least_roots}
use Rattle.neighbor_squares.proofs.Deciding.{key, squares_good, whole_below, whole_same}
use Rattle.radii.specs.Radii.{distances_to, near_of, nearest_distances}
use Rattle.radii.specs.Inner.Steps.{around_of}

module _ (pts : List Float) (n i : ℕ) (a : Around) (w : List ℕ) where
  distances_are : (js : List ℕ) → distances_to pts i (keep_in a.indexed a.range a.cell w n js) ≡ map root (squares_to (is_neighbor_cell a w n) pts i js)
  unfolding distances_to keep_in squares_to is_neighbor_cell
  distances_are [] = refl
  distances_are (j ∷ js) = go (is_neighbor_cell a w n j) (eqb j i) refl (distances_are js)
    where
      later : List ℕ
      later = keep_in a.indexed a.range a.cell w n js

      squares : List Float
      squares = squares_to (is_neighbor_cell a w n) pts i js

      go : (c d : Bool) → eqb j i ≡ d → distances_to pts i later ≡ map root squares
          → distances_to pts i (cond c (j ∷ later) later) ≡ map root (cond (not d && c) (key pts i j ∷ squares) squares)
      go true true e r = rw e r
      go true false e r =
          rw e (
          ap (λ (d : Float). d ∷ distances_to pts i later) (distance_back (point_at pts i) (point_at pts j))
          ∙ ap (λ (ds : List Float). root (key pts i j) ∷ ds) r
          )
      go false true e r = r
      go false false e r = r

one_more : (j m : ℕ) → bit (eqb j m) + bit (ltb j m) ≡ bit (ltb j (suc m))
one_more j m = go (eqb j m) refl (ltb j m) refl
  where
    go : (c : Bool) → eqb j m ≡ c → (d : Bool) → ltb j m ≡ d → bit c + bit d ≡ bit (ltb j (suc m))
    go true e true h = let same = eqb-true j m e in let l = ltb-true j m h in absurd (omega arith)
    go true e false h = let same = eqb-true j m e in let l : j < suc m = omega arith in rw (lt-ltb j (suc m) l)
    go false e true h = let k = ltb-true j m h in let l : j < suc m = omega arith in rw (lt-ltb j (suc m) l)
    go false e false h = let d = eqb-false j m e in let k = ltb-false j m h in let l : suc m ≤ j = omega arith in rw (le-ltb j (suc m) l)

by_cell_whole : (g : SpatialGrid) (pts : List Float) (m : ℕ) → Whole m (by_cell g pts m)
unfolding by_cell
by_cell_whole g pts zero j = let e : ltb j 0 ≡ false = le-ltb j 0 (omega arith) in sym (ap bit e)
by_cell_whole g pts (suc m) j =
    let c = insert_count (eqb j) (precedes_by_cell g pts m) m (by_cell g pts m) in
    let r = by_cell_whole g pts m j in
    omega (arith, one_more j m)

order_whole : (indexed : Bool) (g : SpatialGrid) (pts : List Float) (n : ℕ) → Whole n (order_of indexed g pts n)
unfolding order_of
order_whole false g pts n = up_whole n
order_whole true g pts n = by_cell_whole g pts n

pub nearest_is : (c : BallPivotingConfig) (g : SpatialGrid) (pts : List Float) (n i : ℕ) (w : List ℕ) → i < n → ((j : ℕ) → j < n → Finite (point_at pts j))
    → CellsIndexed g pts n w
    → map root (least_squares (is_neighbor_cell (around_of c g (point_at pts i)) w n) pts i (up_from 0 n)) ≡ nearest_distances c g pts n i
unfolding least_squares nearest_distances near_of
nearest_is c g pts n i w inside numbers x =
    let a : Around = around_of c g (point_at pts i) in
    let near : ℕ → Bool = is_neighbor_cell a w n in
    let all : List ℕ = order_of c.use_spatial_index g pts n in
    ap (map root) (whole_same near pts n i inside numbers (up_from 0 n) all (up_whole n) (order_whole c.use_spatial_index g pts n))
    ∙ sym (least_roots 10 (squares_to near pts i all)
    (squares_good near pts i n inside numbers all (whole_below n all (order_whole c.use_spatial_index g pts n))))
    ∙ ap (λ (ds : List Float). take 10 (sorted ds)) (sym (distances_are pts n i a w all))
    ∙ ap (λ (js : List ℕ). take 10 (sorted (distances_to pts i js)))
    (near_is g c.use_spatial_index pts n w (point_at pts i) (c.radius ⊗ f32 0x40400000) x.cells)

pub nearest_good : (c : BallPivotingConfig) (g : SpatialGrid) (pts : List Float) (n i : ℕ) (w : List ℕ) → i < n → ((j : ℕ) → j < n → Finite (point_at pts j))
    → CellsIndexed g pts n w → All Good (nearest_distances c g pts n i)
unfolding least_squares
nearest_good c g pts n i w inside numbers x =
    let near : ℕ → Bool = is_neighbor_cell (around_of c g (point_at pts i)) w n in
    let squares : List Float = squares_to near pts i (up_from 0 n) in
    subst (λ (ds : List Float). All Good ds) (nearest_is c g pts n i w inside numbers x)
    (roots_good (take 10 (sorted squares))
    (all_take Good 10 (sorted squares)
    (sorted_good squares (squares_good near pts i n inside numbers (up_from 0 n) (whole_below n (up_from 0 n) (up_whole n))))))
