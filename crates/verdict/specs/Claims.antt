-- What is claimed of a verdict that is told, for all input.
use Rattle.std.specs.Prelude.{ℕ, ◌≡◌, List, Ok, Float}
use Rattle.settings.specs.declared.BallPivotingConfig.{BallPivotingConfig}
use Rattle.points.specs.Points.{point_at}
use Rattle.triangle.specs.Quality.{quality, acceptable}
use Rattle.verdict.specs.Verdict.{is_good}
use Rattle.verdict.specs.Judged.{judged, verdict_at}
use Rattle.verdict.specs.declared.MeasuredKind.{MeasuredKind}

-- of the points i, j and k of a cloud, and a verdict
pub record Judges (points : List Float) (s : BallPivotingConfig) (i j k : ℕ) (v : MeasuredKind) : Type 0 where
  -- it is that of the definition
  pub verdict : v ≡ verdict_at points s i j k
  -- it is good exactly where the acceptance test accepts at the main radius
  pub good : is_good v ≡ acceptable (quality (point_at points i) (point_at points j) (point_at points k))
      s.radius s.min_triangle_area s.quality_threshold s.max_edge_factor

-- whatever was asked
abbrev pub Judging : Type 0
Judging =
    (points normals : List Float) (s : BallPivotingConfig) (i j k : ℕ) (v : MeasuredKind)
    → judged points normals s i j k ≡ Ok v → Judges points s i j k v
