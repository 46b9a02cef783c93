-- The order in which points are looked through, with the index or without. Definitions only.
use Rattle.std.specs.Prelude.{ℕ, Bool, cond, List, Float}
use Rattle.lists.specs.Lists.{up_from}
use Rattle.grid.specs.declared.SpatialGrid.{SpatialGrid}
use Rattle.grid.specs.Grid.{by_cell}

-- n points in the order in which they are looked through: by cell, then by number; without the index in number order
unfoldable pub order_of : Bool → SpatialGrid → List Float → ℕ → List ℕ
order_of indexed g pts n = cond indexed (by_cell g pts n) (up_from 0 n)
