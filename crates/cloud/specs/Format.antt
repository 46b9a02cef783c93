-- The cloud file, from its bytes to a radius and points. Definitions only, leaves first: `lines_of_points`, `body`,
-- `file`. A number is in crate `numerals`, a line in `cloud_lines`; both are named here too.
use Rattle.std.specs.Prelude.{ℕ, zero, suc, List, [], ◌∷◌, length, Float}
unfoldable pub use Rattle.decimals.specs.Decimal.{decimal}
pub use Rattle.numerals.specs.Format.{Parsed, parsed, malformed}
unfoldable pub use Rattle.numerals.specs.Format.{then, starts_with, starts_digit, digits, few, digits_value}
unfoldable pub use Rattle.numerals.specs.Format.{fraction, unsigned_number, number}
unfoldable pub use Rattle.cloud_lines.specs.Format.{field, triple, point_fields}
use Rattle.cloud_lines.specs.declared.line.Point.{Point}

-- a run of points' lines: the points, or the first malformed line, from 1
pub data PointLines : Type 0 where
  good : List Point → PointLines
  wrong : ℕ → PointLines

-- a point's line in front of others
unfoldable pub point_ahead : Point → PointLines → PointLines
point_ahead p (good ps) = good (p ∷ ps)
point_ahead p (wrong line) = wrong (suc line)

-- points' lines up to the end of the bytes. A line takes at least a byte, so fuel that starts at the number of bytes
-- lasts.
unfoldable pub lines_of_points : ℕ → List ℕ → PointLines
unfolding then point_fields point_ahead
lines_of_points zero bs = good []
lines_of_points (suc fuel) [] = good []
lines_of_points (suc fuel) (b ∷ bs) =
    elim (point_fields (b ∷ bs)) [ parsed p rest ↦ point_ahead p (lines_of_points fuel rest) | malformed ↦ wrong 1 ]

unfoldable pub body : List ℕ → PointLines
unfolding lines_of_points
body bs = lines_of_points (length bs) bs

-- a whole file: the radius and the points, or the first malformed line, from 1
pub data File : Type 0 where
  cloud : Float → List Point → File
  malformed_line : ℕ → File

-- the radius before the points' lines
unfoldable pub under : Float → PointLines → File
under radius (good ps) = cloud radius ps
under radius (wrong line) = malformed_line (suc line)

unfoldable pub file : List ℕ → File
unfolding field body under
file bs = elim (field 10 bs) [ parsed radius rest ↦ under radius (body rest) | malformed ↦ malformed_line 1 ]
