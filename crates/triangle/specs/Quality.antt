-- A triangle's area, circumradius and quality, from its points, and the test on it, each operation rounded once, in the
-- Rust's order. Definitions only.
use Rattle.std.specs.Prelude.{Bool, false, not, cond, Float}
use Rattle.std.specs.Float.{inf}
use Rattle.std.specs.Float.Ieee.{lt, eq}
use Rattle.numbers.specs.Rounded.{f32, ◌⊗◌}
use Rattle.numbers.specs.Root.{root}
use Rattle.vector.specs.Vector.{difference, magnitude, cross, distance}
use Rattle.vector.specs.declared.Point3f.{Point3f}
use Rattle.quality.specs.Measures.{half, tiny, radius_of, measures, degenerate}
use Rattle.quality.specs.declared.TriangleQuality.{TriangleQuality}

-- half the length of the cross product of two edges
unfoldable pub area : Point3f → Point3f → Point3f → Float
area p1 p2 p3 = magnitude (cross (difference p2 p1) (difference p3 p1)) ⊗ half

-- `compute_circumradius`
unfoldable pub circumradius : Point3f → Point3f → Point3f → Float
circumradius p1 p2 p3 =
    cond (lt (area p1 p2 p3) tiny) (inf false)
    (radius_of (distance p2 p1) (distance p3 p2) (distance p1 p3) (area p1 p2 p3))

-- `compute_triangle_quality`
unfoldable pub quality : Point3f → Point3f → Point3f → TriangleQuality
quality p1 p2 p3 =
    cond (lt (area p1 p2 p3) tiny) (degenerate (area p1 p2 p3))
    (measures (distance p2 p1) (distance p3 p2) (distance p1 p3) (area p1 p2 p3) (circumradius p1 p2 p3))

-- exactly zero, of either sign; a not-a-number is not
abbrev pub is_zero : Float → Bool
is_zero x = eq x (f32 0)

-- `is_triangle_acceptable` as published: the area, the score, and the edges against the radius
unfoldable pub source_acceptable : TriangleQuality → Float → Float → Float → Float → Bool
source_acceptable q radius leastArea threshold factor =
    cond (lt q.area leastArea) false
    (cond (lt q.quality_score threshold) false
    (not (lt (radius ⊗ factor) (q.edge_ratio ⊗ root q.area))))

-- `is_triangle_acceptable`: an area of exactly zero is turned down first, under every setting
unfoldable pub acceptable : TriangleQuality → Float → Float → Float → Float → Bool
acceptable q radius leastArea threshold factor =
    cond (is_zero q.area) false (source_acceptable q radius leastArea threshold factor)
