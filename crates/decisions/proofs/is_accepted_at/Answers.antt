-- `is_accepted_at` meets its contract: the lengths and the area, each worked out once, are those of the quality.
-- Assumes nothing.
use Rattle.quality.proofs.Shapes.{shape_own, quality_own}
use Rattle.decisions.proofs.Completed.{accepted_shape, accepted_at}
use Rattle.decisions.proofs.is_accepted_at.Goals as goal

pub returns-then-is_shape_refused : goal.returns-then-is_shape_refused
returns-then-is_shape_refused c =
    let n = c in
    let a = n.args in
    accepted_shape a.s a.points.now a.radius a.i a.j a.k c.area_at-area.ensures
    c.apart_at-side.ensures n.requires.4 n.requires.3
    c.shape_of-shape.ensures (c.is_shape_refused.ensures c.if-is_shape_refused.true)

pub quality_of-requires : goal.quality_of-requires
quality_of-requires c = let v = c.shape_of-shape in shape_own v.result _ _ _ _ v.ensures

pub returns : goal.returns
returns c =
    let v = c in
    let n = v in
    let a = n.args in
    let d = v.apart_at-side in
    let e = v.area_at-area in
    accepted_at a.s a.points.now a.radius a.i a.j a.k e.ensures d.ensures n.requires.4 n.requires.3
    (quality_own d.result a.to_j a.to_i e.result v.shape_of-shape.ensures c.quality_of.ensures)
    c.is_accepted.ensures
