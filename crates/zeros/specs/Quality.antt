-- `compute_triangle_quality` with a `min` m and a `max` M that may give either of two unlike zeros: the definitions of
-- the crates `quality` (Measures.antt) and `triangle` (Quality.antt), with m and M in the places of `minimum` and
-- `maximum`. Definitions only.
use Rattle.std.specs.Prelude.{false, cond, Float}
use Rattle.std.specs.Float.{inf}
use Rattle.std.specs.Float.Ieee.{lt}
use Rattle.numbers.specs.Rounded.{f32, ◌⊕◌, ◌⊖◌, ◌⊗◌, ◌⊘◌}
use Rattle.vector.specs.Vector.{distance}
use Rattle.vector.specs.declared.Point3f.{Point3f}
use Rattle.quality.specs.Measures.{one, tiny, angle, aspect_ratio, degenerate}
use Rattle.quality.specs.declared.TriangleQuality.{TriangleQuality}
use Rattle.triangle.specs.Quality.{area, circumradius}

module _ (m M : Float → Float → Float) where
  -- `a.min(b).min(c)` and `a.max(b).max(c)`
  unfoldable pub least_by : Float → Float → Float → Float
  least_by a b c = m (m a b) c

  unfoldable pub largest_by : Float → Float → Float → Float
  largest_by a b c = M (M a b) c

  -- the longest edge over the shortest
  unfoldable pub edge_ratio_by : Float → Float → Float → Float
  edge_ratio_by a b c = cond (lt tiny (least_by a b c)) (largest_by a b c ⊘ least_by a b c) (inf false)

  -- the mean of the qualities of angle, aspect and edges; the constants are pi, 6, 2 and 3
  unfoldable pub score_by : Float → Float → Float → Float
  score_by minAngle aspect edge =
      let angleQuality = m (minAngle ⊘ (f32 0x40490fdb ⊘ f32 0x40c00000)) one in
      let edgeQuality = m (f32 0x40400000 ⊘ edge) one in
      (angleQuality ⊕ aspect ⊗ f32 0x40000000 ⊕ edgeQuality) ⊘ f32 0x40400000

  -- the six measures, from the edges' lengths, the area and the circumradius
  unfoldable pub measures_by : Float → Float → Float → Float → Float → TriangleQuality
  measures_by a b c area radius =
      let angleA = angle a b c in
      let angleB = angle b a c in
      let angleC = f32 0x40490fdb ⊖ angleA ⊖ angleB in
      let minAngle = least_by angleA angleB angleC in
      let aspect = aspect_ratio a b c area radius in
      let edge = edge_ratio_by a b c in
      record {
        aspect_ratio = aspect;
        min_angle = minAngle;
        max_angle = largest_by angleA angleB angleC;
        area = area;
        edge_ratio = edge;
        quality_score = score_by minAngle aspect edge;
      }

  -- the quality of three points
  unfoldable pub quality_by : Point3f → Point3f → Point3f → TriangleQuality
  quality_by p1 p2 p3 =
      cond (lt (area p1 p2 p3) tiny) (degenerate (area p1 p2 p3))
      (measures_by (distance p2 p1) (distance p3 p2) (distance p1 p3) (area p1 p2 p3) (circumradius p1 p2 p3))
