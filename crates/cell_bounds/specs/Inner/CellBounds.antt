-- Bounds that hold every point whose cell lies within a range of another, and squared distances within them.
-- Definitions only.
use Rattle.std.specs.Prelude.{ℕ, ◌≡◌, true, T, Float}
use Rattle.std.specs.Float.Ieee.{le}
use Rattle.vector.specs.declared.Point3f.{Point3f}
use Rattle.vector.specs.Vector.{squared}
use Rattle.vector.specs.Inner.Numbers.{Finite}
use Rattle.bounds.specs.declared.Bounds.{Bounds}
use Rattle.bounds.specs.Inner.Within.{within}
use Rattle.grid.specs.declared.SpatialGrid.{SpatialGrid}
use Rattle.grid.specs.declared.Cell.{Cell}
use Rattle.grid.specs.Grid.{cell_of, in_range}

-- every place whose cell lies within the range of c is within the bounds
abbrev pub Holding : SpatialGrid → Cell → ℕ → Bounds → Type 0
Holding g c range b = (q : Point3f) → Finite q → in_range range c (cell_of g q) ≡ true → within b q ≡ true

-- no place within the bounds has a squared distance from p above t
abbrev pub Reaching : Bounds → Point3f → Float → Type 0
Reaching b p t = (q : Point3f) → Finite q → within b q ≡ true → T (le (squared q p) t)
