-- What bounds a triangle's score, whatever its angles. Definitions only.
use Rattle.std.specs.Prelude.{T, Float}
use Rattle.std.specs.Float.Ieee.{lt, le}
use Rattle.numbers.specs.Rounded.{f32}
use Rattle.quality.specs.Measures.{score}
use Rattle.quality.specs.declared.Shape.{Shape}

-- the score with a least angle of pi
unfoldable pub score_bound : Shape → Float
score_bound s = score (f32 0x40490fdb) s.aspect_ratio s.edge_ratio

-- with an aspect ratio of at most t the score is below the threshold, whatever the angles and the edges
pub record AspectLimit (threshold t : Float) : Type 0 where
  pub below : (minAngle aspect edge : Float) → T (le aspect t) → T (lt (score minAngle aspect edge) threshold)
