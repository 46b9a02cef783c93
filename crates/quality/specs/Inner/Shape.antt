-- What is known of a triangle from its lengths and its area: the measures without the angles, and the quality.
-- Definitions only.
use Rattle.std.specs.Prelude.{false, cond, Float}
use Rattle.std.specs.Float.{inf}
use Rattle.std.specs.Float.Ieee.{lt}
use Rattle.numbers.specs.Rounded.{f32}
use Rattle.quality.specs.Measures.{radius_of, aspect_ratio, edge_ratio, measures, degenerate}
use Rattle.quality.specs.declared.Shape.{Shape}
use Rattle.quality.specs.declared.TriangleQuality.{TriangleQuality}

-- of a triangle that has an area
unfoldable pub shape : Float → Float → Float → Float → Shape
shape a b c area = record {
  area = area;
  aspect_ratio = aspect_ratio a b c area (radius_of a b c area);
  edge_ratio =
      edge_ratio a b c;
}

-- of one whose area is below 1e-10
unfoldable pub flat_shape : Float → Shape
flat_shape area = record { area = area; aspect_ratio = f32 0; edge_ratio = inf false }

unfoldable pub shape_of : Float → Float → Float → Float → Shape
shape_of a b c area = cond (lt area (f32 0x2edbe6ff)) (flat_shape area) (shape a b c area)

-- `compute_triangle_quality`, from the lengths and the area
unfoldable pub quality_of : Float → Float → Float → Float → TriangleQuality
quality_of a b c area = cond (lt area (f32 0x2edbe6ff)) (degenerate area) (measures a b c area (radius_of a b c area))
