-- The scope's Grid: cells, and the neighbours of a place. Definitions only.
use Rattle.std.specs.Prelude.{ℕ, zero, suc, ◌+◌, Bool, false, cond, ◌&&◌, ◌||◌, List, [], ◌∷◌, leb, ltb, eqb, get_or, Float}
use Rattle.std.specs.Float.{nan, inf}
use Rattle.numbers.specs.Rounded.{◌⊖◌, ◌⊘◌}
use Rattle.numbers.specs.Order.{minimum}
use Rattle.numbers.specs.Cut.{cut, ceil}
use Rattle.vector.specs.declared.Point3f.{Point3f}
use Rattle.points.specs.Points.{point_at}
use Rattle.lists.specs.Lists.{up_from}
use Rattle.sorting.specs.Insertion.{insert_before}
use Rattle.grid.specs.declared.SpatialGrid.{SpatialGrid}
use Rattle.grid.specs.declared.Cell.{Cell}

-- the least of a and of m coordinates on one axis, the first at index `at`
unfoldable pub least_from : List Float → Float → ℕ → ℕ → Float
least_from pts a at zero = a
least_from pts a at (suc m) = least_from pts (minimum a (get_or pts at nan)) (at + 3) m

-- the cloud's least coordinate on each axis
unfoldable pub bounds_min : List Float → ℕ → Point3f
bounds_min pts n = record {
  x = least_from pts (inf false) 0 n;
  y = least_from pts (inf false) 1 n;
  z = least_from pts (inf false) 2 n;
}

-- the index of n points: cells of one size, counted from the least coordinates
abbrev pub grid_of : Float → List Float → ℕ → SpatialGrid
grid_of size pts n = record { cell_size = size; bounds_min = bounds_min pts n }

-- a coordinate's distance above the least one, divided by the cell size, cut
unfoldable pub cell_on : Float → Float → Float → ℕ
cell_on size least v = cut ((v ⊖ least) ⊘ size)

-- the cell of a place
unfoldable pub cell_of : SpatialGrid → Point3f → Cell
cell_of g p = record {
  x = cell_on g.cell_size g.bounds_min.x p.x;
  y = cell_on g.cell_size g.bounds_min.y p.y;
  z = cell_on g.cell_size g.bounds_min.z p.z;
}

-- ordered by first, second, third coordinate
unfoldable pub before : Cell → Cell → Bool
before c d = ltb c.x d.x || (eqb c.x d.x && (ltb c.y d.y || (eqb c.y d.y && ltb c.z d.z)))

-- the cell of point i comes before that of point j
unfoldable pub precedes_by_cell : SpatialGrid → List Float → ℕ → ℕ → Bool
precedes_by_cell g pts i j = before (cell_of g (point_at pts i)) (cell_of g (point_at pts j))

-- the first m points ordered by cell, then by number: each in turn goes before the first one whose cell comes
-- after its own
unfoldable pub by_cell : SpatialGrid → List Float → ℕ → List ℕ
by_cell g pts zero = []
by_cell g pts (suc m) = insert_before (precedes_by_cell g pts m) m (by_cell g pts m)

-- two cells lie within a range of each other on each axis
unfoldable pub within_range : ℕ → ℕ → ℕ → Bool
within_range range a b = leb a (b + range) && leb b (a + range)

unfoldable pub in_range : ℕ → Cell → Cell → Bool
in_range range c d =
    within_range range c.x d.x && (within_range range c.y d.y && within_range range c.z d.z)

-- how many cells a radius reaches
unfoldable pub range_of : SpatialGrid → Float → ℕ
range_of g r = cut (ceil (r ⊘ g.cell_size))

-- those of the points js whose cell lies within the range of a cell
unfoldable pub keep : SpatialGrid → List Float → ℕ → Cell → List ℕ → List ℕ
keep g pts range c [] = []
keep g pts range c (j ∷ js) =
    let later = keep g pts range c js in
    cond (in_range range c (cell_of g (point_at pts j))) (j ∷ later) later

-- the neighbours of a place at a radius, of n points: by cell, then by number; without the index all points in
-- number order
unfoldable pub neighbors : Bool → SpatialGrid → List Float → ℕ → Point3f → Float → List ℕ
neighbors indexed g pts n p r = cond indexed (keep g pts (range_of g r) (cell_of g p) (by_cell g pts n)) (up_from 0 n)
