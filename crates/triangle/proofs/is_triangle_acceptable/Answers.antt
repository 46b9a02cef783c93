-- `is_triangle_acceptable` meets its contract, test by test.
use Rattle.triangle.specs.Quality.{source_acceptable, acceptable}
use Rattle.triangle.proofs.is_triangle_acceptable.Goals as goal

pub returns-then-quality : goal.returns-then-quality
unfolding acceptable
returns-then-quality c = rw c.if-quality.true

pub returns-then-quality-min_triangle_area : goal.returns-then-quality-min_triangle_area
unfolding acceptable source_acceptable
returns-then-quality-min_triangle_area c = rw (c.if-quality.false, c.if-quality-min_triangle_area.true)

pub returns-then-quality-quality_threshold : goal.returns-then-quality-quality_threshold
unfolding acceptable source_acceptable
returns-then-quality-quality_threshold c = rw (c.if-quality.false, c.if-quality-min_triangle_area.false, c.if-quality-quality_threshold.true)

pub returns-then-quality-sqrt : goal.returns-then-quality-sqrt
unfolding acceptable source_acceptable
returns-then-quality-sqrt c =
    let b = c.before.before.before in
    rw (b.if-quality.false, b.if-quality-min_triangle_area.false, b.if-quality-quality_threshold.false, ← c.sqrt.ensures, c.if-quality-sqrt.true)

pub returns : goal.returns
unfolding acceptable source_acceptable
returns c =
    let b = c.before.before.before in
    rw (b.if-quality.false, b.if-quality-min_triangle_area.false, b.if-quality-quality_threshold.false, ← c.sqrt.ensures, c.if-quality-sqrt.false)
