-- That the neighbours by the kept cells are those of the definition, that each is a point, and what survives a change
-- of the slice from 4n on. Assumes nothing.
use mathlib.Core.Path.{◌≡◌, refl, ap, ◌∙◌}
use mathlib.Core.Bool.{Bool, true, false, cond}
use mathlib.Core.List.{List, [], ◌∷◌}
use Prim.Native.Nat.{ℕ, ◌*◌, ◌<◌}
use native.Mathlib.Omega.{arith}
use lib.ListN.{length, take}
use lib.Ieee.{Float}
use Rattle.vector.specs.declared.Point3f.{Point3f}
use Rattle.points.specs.Points.{point_at}
use Rattle.lists.specs.Lists.{up_from}
use Rattle.grid.specs.declared.Cell.{Cell}
use Rattle.grid.specs.declared.SpatialGrid.{SpatialGrid}
use Rattle.grid.specs.Grid.{cell_of, in_range, range_of, keep, neighbors, by_cell}
use Rattle.grid.specs.Inner.Looking.{order_of}
use Rattle.grid.specs.Inner.Index.{Cells, CellsIndexed, keep_in}
use Rattle.lists.specs.Members.{Below}
use Rattle.lists.proofs.Members.{below_none, below_more, below_first, below_rest}
use Rattle.grid.proofs.Kept.{cell_of_take}
use Rattle.grid.proofs.Sequence.{order_of_below}

-- ---- the neighbours of the definition
keep_is : (g : SpatialGrid) (pts : List Float) (range : ℕ) (c : Cell) (n : ℕ) (w : List ℕ) → Cells g pts n w → (js : List ℕ) → Below n js
    → keep_in true range c w n js ≡ keep g pts range c js
unfolding keep_in keep
keep_is g pts range c n w cells [] b = refl
keep_is g pts range c n w cells (j ∷ js) b = rw (cells j (below_first n j js b), keep_is g pts range c n w cells js (below_rest n j js b))

keep_all : (range : ℕ) (c : Cell) (n : ℕ) (w js : List ℕ) → keep_in false range c w n js ≡ js
unfolding keep_in
keep_all range c n w [] = refl
keep_all range c n w (j ∷ js) = ap (λ (l : List ℕ). j ∷ l) (keep_all range c n w js)

pub near_is : (g : SpatialGrid) (indexed : Bool) (pts : List Float) (n : ℕ) (w : List ℕ) (p : Point3f) (r : Float) → Cells g pts n w
    → keep_in indexed (range_of g r) (cell_of g p) w n (order_of indexed g pts n) ≡ neighbors indexed g pts n p r
unfolding neighbors order_of
near_is g true pts n w p r x = keep_is g pts (range_of g r) (cell_of g p) n w x (by_cell g pts n) (order_of_below true g pts n)
near_is g false pts n w p r x = keep_all (range_of g r) (cell_of g p) n w (up_from 0 n)

-- ---- every neighbour is a point
keep_below : (g : SpatialGrid) (pts : List Float) (range : ℕ) (c : Cell) (n : ℕ) (js : List ℕ) → Below n js → Below n (keep g pts range c js)
unfolding keep
keep_below g pts range c n [] b = below_none n
keep_below g pts range c n (j ∷ js) b = go (in_range range c (cell_of g (point_at pts j))) (keep_below g pts range c n js (below_rest n j js b))
  where
    go : (t : Bool) → Below n (keep g pts range c js) → Below n (cond t (j ∷ keep g pts range c js) (keep g pts range c js))
    go true r = below_more n j (keep g pts range c js) (below_first n j js b) r
    go false r = r

pub neighbors_below : (indexed : Bool) (g : SpatialGrid) (pts : List Float) (n : ℕ) (p : Point3f) (r : Float) → Below n (neighbors indexed g pts n p r)
unfolding neighbors order_of
neighbors_below true g pts n p r = keep_below g pts (range_of g r) (cell_of g p) n (by_cell g pts n) (order_of_below true g pts n)
neighbors_below false g pts n p r = order_of_below false g pts n

-- ---- what is kept survives any change of the slice from 4n on
pub indexed_kept : {g : SpatialGrid} {pts : List Float} {n : ℕ} {w : List ℕ} (u : List ℕ) → CellsIndexed g pts n w → length u ≡ length w → take (4 * n) u
    ≡ take (4 * n) w → CellsIndexed g pts n u
indexed_kept {g} {pts} {n} {w} u x l e =
    record {
      few = x.few;
      room = omega (arith, x.room);
      cells = λ (i : ℕ) (k : i < n). cell_of_take w u n i k e ∙ x.cells i k;
    }
