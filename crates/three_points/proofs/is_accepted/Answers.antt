-- `is_accepted` meets its contract: the bound refuses only what the score would. Assumes nothing.
use mathlib.Core.Path.{sym}
use Rattle.quality.proofs.Shapes.{shape_own, quality_own}
use Rattle.decisions.specs.Decisions.{accepts}
use Rattle.decisions.proofs.Completed.{shape_low}
use Rattle.three_points.proofs.is_accepted.Goals as goal

pub returns-then-score_bound-s : goal.returns-then-score_bound-s
returns-then-score_bound-s c =
    let a = c.args in
    sym (shape_low a.s a.radius c.score_bound.ensures c.if-score_bound-s.true a.a a.b a.c a.area
    c.shape_of-shape.ensures)

pub quality_of-q-requires : goal.quality_of-q-requires
quality_of-q-requires c =
    let a = c.args in
    let v = c.shape_of-shape in
    shape_own v.result a.a a.b a.c a.area v.ensures

pub returns : goal.returns
unfolding accepts
returns c =
    let shape_of = c.shape_of-shape in
    let start = c in
    let a = start.args in
    let q = c.quality_of-q in
    rw (quality_own a.a a.b a.c a.area shape_of.ensures q.ensures) c.is_triangle_acceptable.ensures
