-- A triangle's six measures from the lengths of its edges and its area, each operation rounded once, in the Rust's
-- order. Definitions only.
use Rattle.std.specs.Prelude.{false, cond, Float}
use Rattle.std.specs.Float.{inf}
use Rattle.std.specs.Float.Ieee.{neg, lt}
use Rattle.numbers.specs.Rounded.{f32, ◌⊕◌, ◌⊖◌, ◌⊗◌, ◌⊘◌}
use Rattle.numbers.specs.Order.{minimum, maximum, clamp}
use Rattle.numbers.specs.Acos.{acos}
use Rattle.quality.specs.declared.TriangleQuality.{TriangleQuality}

abbrev pub half : Float
half = f32 0x3f000000

abbrev pub one : Float
one = f32 0x3f800000

abbrev two : Float
two = f32 0x40000000

abbrev three : Float
three = f32 0x40400000

abbrev four : Float
four = f32 0x40800000

abbrev six : Float
six = f32 0x40c00000

abbrev pi : Float
pi = f32 0x40490fdb

-- 1e-10
abbrev pub tiny : Float
tiny = f32 0x2edbe6ff

-- abc / 4A, from the edges' lengths and the area
unfoldable pub radius_of : Float → Float → Float → Float → Float
radius_of a b c area = (a ⊗ b ⊗ c) ⊘ (four ⊗ area)

-- the angle opposite to the edge a, by the law of cosines
unfoldable pub angle : Float → Float → Float → Float
angle a b c = acos (clamp ((b ⊗ b ⊕ c ⊗ c ⊖ a ⊗ a) ⊘ (two ⊗ b ⊗ c)) (neg one) one)

-- the least and the largest of three
unfoldable pub least : Float → Float → Float → Float
least a b c = minimum (minimum a b) c

unfoldable pub largest : Float → Float → Float → Float
largest a b c = maximum (maximum a b) c

-- the inradius over the circumradius
unfoldable pub aspect_ratio : Float → Float → Float → Float → Float → Float
aspect_ratio a b c area radius = cond (lt tiny radius) (area ⊘ ((a ⊕ b ⊕ c) ⊗ half) ⊘ radius) (f32 0)

-- the longest edge over the shortest
unfoldable pub edge_ratio : Float → Float → Float → Float
edge_ratio a b c = cond (lt tiny (least a b c)) (largest a b c ⊘ least a b c) (inf false)

-- the mean of the qualities of angle, aspect and edges
unfoldable pub score : Float → Float → Float → Float
score minAngle aspect edge =
    (minimum (minAngle ⊘ (pi ⊘ six)) one ⊕ aspect ⊗ two ⊕ minimum (three ⊘ edge) one) ⊘ three

-- the measures, from the edges' lengths, the area and the circumradius
unfoldable pub measures : Float → Float → Float → Float → Float → TriangleQuality
measures a b c area radius =
    let angleA = angle a b c in
    let angleB = angle b a c in
    let angleC = pi ⊖ angleA ⊖ angleB in
    let minAngle = least angleA angleB angleC in
    let aspect = aspect_ratio a b c area radius in
    let edge = edge_ratio a b c in
    record {
      aspect_ratio = aspect;
      min_angle = minAngle;
      max_angle = largest angleA angleB angleC;
      area = area;
      edge_ratio = edge;
      quality_score = score minAngle aspect edge;
    }

-- the measures where the area is below 1e-10
unfoldable pub degenerate : Float → TriangleQuality
degenerate area = record {
  aspect_ratio = f32 0;
  min_angle = f32 0;
  max_angle = pi;
  area = area;
  edge_ratio = inf false;
  quality_score = f32 0;
}
