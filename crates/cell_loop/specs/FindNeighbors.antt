-- `find_neighbors` cell by cell, as the Rust has it, with the claim that it lists the neighbours of the definition in
-- their order. The definition orders all points by cell and number and keeps those in range. Definitions only.
use Rattle.std.specs.Prelude.{ℕ, ◌+◌, ◌*◌, ◌≡◌, Bool, true, ◌&&◌, List, [], ◌∷◌, ◌++◌, eqb, Float}
use Rattle.vector.specs.declared.Point3f.{Point3f}
use Rattle.points.specs.Points.{point_at}
use Rattle.grid.specs.Grid.{cell_of, range_of, neighbors}
use Rattle.grid.specs.declared.SpatialGrid.{SpatialGrid}
use Rattle.grid.specs.declared.Cell.{Cell}
use Rattle.lists.specs.Lists.{up_from}
use Rattle.lists.specs.Members.{only}

-- a `for` whose body extends the list
unfoldable pub extended : (ℕ → List ℕ) → List ℕ → List ℕ
extended body [] = []
extended body (x ∷ xs) = body x ++ extended body xs

-- a coordinate v of a cell is the centre's plus dx, where dx = step - range
unfoldable pub is_at : ℕ → ℕ → ℕ → ℕ → Bool
is_at range centre step v = eqb (v + range) (centre + step)

module _ (g : SpatialGrid) (pts : List Float) (n : ℕ) where
  -- `grid.cells.get(&cell_key)`: the points of one cell, in the order in which they were put in
  unfoldable pub in_cell : ℕ → Cell → ℕ → ℕ → ℕ → List ℕ
  in_cell range centre a b d =
      only (λ j. let c = cell_of g (point_at pts j) in
      is_at range centre.x a c.x && (is_at range centre.y b c.y && is_at range centre.z d c.z))
      (up_from 0 n)

  -- `for dx in -search_range..=search_range`, and so for dy and dz
  unfoldable pub find_neighbors : Point3f → Float → List ℕ
  find_neighbors p r =
      let range = range_of g r in
      let steps = up_from 0 (2 * range + 1) in
      extended (λ a. extended (λ b. extended (λ d. in_cell range (cell_of g p) a b d) steps) steps) steps

-- The claim, for every grid, all points and every radius. `find_neighbors_lem` proves it.
abbrev pub CellLoop : Type 0
CellLoop =
    (g : SpatialGrid) (pts : List Float) (n : ℕ) (p : Point3f) (r : Float)
    → find_neighbors g pts n p r ≡ neighbors true g pts n p r
