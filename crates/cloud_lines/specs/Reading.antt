-- What a reader says of a point's line, and where it stands then. Definitions only.
use Rattle.std.specs.Prelude.{ℕ, ◌-◌, ◌≡◌, List, length, drop, Option, Some, None}
use Rattle.numerals.specs.Format.{Parsed, parsed, malformed}
use Rattle.cloud_lines.specs.Format.{point_fields}
use Rattle.cloud_lines.specs.declared.line.Point.{Point}

-- what was read, with the bytes behind it
unfoldable pub read_means : List ℕ → Option Point → Parsed Point
read_means rest (Some point) = parsed point rest
read_means rest None = malformed

-- the place behind a line: of so many bytes, all but those that are left. Where the line is malformed, the place stays.
unfoldable pub place_after : ℕ → ℕ → Parsed Point → ℕ
place_after total at (parsed point rest) = total - length rest
place_after total at malformed = at

-- the line at a place of the bytes s was read, and the next place is behind it
pub record Stepped (s : List ℕ) (at : ℕ) (read : Option Point) (next : ℕ) : Type 0 where
  pub means : read_means (drop next s) read ≡ point_fields (drop at s)
  pub place : next ≡ place_after (length s) at (point_fields (drop at s))
