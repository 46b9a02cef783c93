-- The axes of space by number. Definitions only.
use Rattle.std.specs.Prelude.{ℕ}
use Rattle.vector.specs.declared.Axis.{Axis}
use Rattle.vector.specs.declared.Axis.TheVariants.{X, Y, Z}

-- which of a point's three coordinates is the one along an axis
abbrev pub axis_index : Axis → ℕ
axis_index X = 0
axis_index Y = 1
axis_index Z = 2
