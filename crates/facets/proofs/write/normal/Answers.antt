-- `write::normal` meets its contract: one law for each way out. Assumes nothing.
use Rattle.facets.proofs.Puts.{normal_zero, normal_some}
use Rattle.facets.proofs.write.normal.Goals as goal

pub returns-then-l : goal.returns-then-l
returns-then-l c =
    let difference2 = c.difference-2 in
    let difference = c.difference in
    normal_zero _ _ _ _ _ _ _ difference.ensures difference2.ensures c.cross-v.ensures
    c.magnitude-l.ensures _ c.if-l.true c.point.ensures

pub returns : goal.returns
returns c =
    let if1 = c.if-l in
    let magnitude = c.magnitude-l in
    let cross = c.cross-v in
    let difference2 = c.difference-2 in
    let difference = c.difference in
    normal_some _ _ _ _ _ _ _ difference.ensures difference2.ensures cross.ensures magnitude.ensures _ if1.false c.point-2.ensures
