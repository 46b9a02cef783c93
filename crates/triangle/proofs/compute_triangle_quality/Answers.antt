-- `compute_triangle_quality` meets its contract: the lengths and the area, worked out once, are those of the
-- circumradius too.
use mathlib.Core.Path.{ap}
use Rattle.quality.specs.declared.Shape.{Shape}
use Rattle.quality.proofs.Shapes.{shape_area, shape_own}
use Rattle.triangle.proofs.Quality.{quality_is}
use Rattle.triangle.proofs.compute_triangle_quality.Goals as goal

pub quality_of-requires : goal.quality_of-requires
quality_of-requires c = shape_own c.shape_of.result _ _ _ _ c.shape_of.ensures

pub returns : goal.returns
returns c =
    let a = c.args in
    let own = ap (λ (s : Shape). s.area) c.shape_of.ensures in
    let same = shape_area c.distance-a.result c.distance-b.result
    c.distance-c.result c.area_of.result in
    let whole = quality_is a.p1 a.p2 a.p3 in
    cc
