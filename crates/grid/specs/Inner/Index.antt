-- What the index keeps in the u32 work slice: the points' cells. Definitions only.
use Rattle.std.specs.Prelude.{ℕ, ◌+◌, ◌*◌, ◌≤◌, ◌<◌, ◌≡◌, Bool, cond, not, ◌&&◌, ◌||◌, List, [], ◌∷◌, ltb, length, get_or, Float}
use Rattle.points.specs.Points.{point_at}
use Rattle.regions.specs.Inner.Regions.{cells_at, words_length}
use Rattle.grid.specs.declared.SpatialGrid.{SpatialGrid}
use Rattle.grid.specs.declared.Cell.{Cell}
use Rattle.grid.specs.Grid.{cell_of, before, in_range}

-- the cell that is kept for point i: three words
unfoldable pub cell_in : List ℕ → ℕ → ℕ → Cell
cell_in w n i =
    let at = cells_at n + 3 * i in
    record { x = get_or w at 0; y = get_or w (at + 1) 0; z = get_or w (at + 2) 0 }

-- the kept cells are those of the points
abbrev pub Cells : SpatialGrid → List Float → ℕ → List ℕ → Type 0
Cells g pts n w = (i : ℕ) → i < n → cell_in w n i ≡ cell_of g (point_at pts i)

-- what `build_spatial_grid` leaves and the searches need
pub record CellsIndexed (g : SpatialGrid) (pts : List Float) (n : ℕ) (w : List ℕ) : Type 0 where
  pub few : n ≤ 4096
  pub room : words_length n ≤ length w
  pub cells : Cells g pts n w

-- ---- the definitions of Grid.antt, over the kept cells

-- the cell of point i comes before that of point j
unfoldable pub precedes_in : List ℕ → ℕ → ℕ → ℕ → Bool
precedes_in w n i j = before (cell_in w n i) (cell_in w n j)

-- point i comes before point j: by cell if there is an index, then by number
unfoldable pub earlier : Bool → (ℕ → Cell) → ℕ → ℕ → Bool
earlier indexed cell i j = (indexed && before (cell i) (cell j))
    || (not (indexed && before (cell j) (cell i)) && ltb i j)

-- those of the points js whose cell lies within the range of a cell; without the index all of them
unfoldable pub keep_in : Bool → ℕ → Cell → List ℕ → ℕ → List ℕ → List ℕ
keep_in indexed range c w n [] = []
keep_in indexed range c w n (j ∷ js) =
    let later = keep_in indexed range c w n js in
    cond (not indexed || in_range range c (cell_in w n j)) (j ∷ later) later
