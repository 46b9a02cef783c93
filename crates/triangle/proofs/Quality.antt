-- The quality of a triangle is that of its lengths and its area (`quality_is`), the length of its last edge being taken
-- either way (`quality_turned`). Assumes nothing.
use mathlib.Core.Path.{◌≡◌, refl, ap, ◌∙◌}
use mathlib.Core.Bool.{Bool, true, false, cond}
use lib.Ieee.{Float, inf, lt}
use Rattle.numbers.specs.Rounded.{f32}
use Rattle.vector.specs.Vector.{distance}
use Rattle.vector.specs.declared.Point3f.{Point3f}
use Rattle.vector.proofs.Distances.{distance_turned}
use Rattle.quality.specs.Measures.{radius_of, measures, degenerate}
use Rattle.quality.specs.Inner.Shape.{quality_of}
use Rattle.quality.specs.declared.TriangleQuality.{TriangleQuality}
use Rattle.triangle.specs.Quality.{area, circumradius, quality}

pub quality_is : (p1 p2 p3 : Point3f) → quality_of (distance p2 p1) (distance p3 p2) (distance p1 p3) (area p1 p2 p3) ≡ quality p1 p2 p3
unfolding quality_of quality circumradius
quality_is p1 p2 p3 =
    go (lt (area p1 p2 p3) (f32 0x2edbe6ff)) (degenerate (area p1 p2 p3)) (measures (distance p2 p1) (distance p3 p2) (distance p1 p3) (area p1 p2 p3))
    (radius_of (distance p2 p1) (distance p3 p2) (distance p1 p3) (area p1 p2 p3))
  where
    go : (t : Bool) (q : TriangleQuality) (f : Float → TriangleQuality) (r : Float) → cond t q (f r) ≡ cond t q (f (cond t (inf false) r))
    go true q f r = refl
    go false q f r = refl

pub quality_turned : (p1 p2 p3 : Point3f) → quality_of (distance p2 p1) (distance p3 p2) (distance p3 p1) (area p1 p2 p3) ≡ quality p1 p2 p3
quality_turned p1 p2 p3 = ap (λ (c : Float). quality_of (distance p2 p1) (distance p3 p2) c (area p1 p2 p3)) (distance_turned p3 p1) ∙ quality_is p1 p2 p3
