-- What the inner functions require, and promise to each other.
use Rattle.std.specs.Prelude.{ℕ, ◌*◌, ◌≤◌, ◌≡◌, List, map, length, drop, Float}
use Rattle.cloud_lines.specs.declared.line.Triple.{Triple}
use Rattle.cloud_lines.specs.declared.line.Point.{Point}
use Rattle.cloud.specs.Format.{body, PointLines, good, wrong}
use Rattle.cloud.specs.Answers.{coordinates_of, over_front}

-- the lines from a place on are well formed, so many, and both slices have room for their points
pub record Fitting (s : List ℕ) (from count : ℕ) (points normals : List Float) : Type 0 where
  pub read : List Point
  pub lines_good : body (drop from s) ≡ good read
  pub as_many : length read ≡ count
  pub points_fit : 3 * length read ≤ length points
  pub normals_fit : 3 * length read ≤ length normals

-- one part of each point of some lines, in front of a list
unfoldable pub laid_out : (Point → Triple) → PointLines → List Float → List Float
unfolding coordinates_of over_front
laid_out part (good ps) old = over_front (coordinates_of (map part ps)) old
laid_out part (wrong line) old = old
