-- `extent_on` meets its contract. The loop's invariant: the points so far lie between the least and the largest
-- coordinate. Assumes nothing.
use Rattle.flatness.proofs.Extents.{reach_start, reach_step, reach_end}
use Rattle.flatness.proofs.extent_on.Goals as goal

pub loop-i-init : goal.loop-i-init
loop-i-init c =
    let f = rw (← c.index-first.ensures.number) at c.requires.3 in
    reach_start c.args.points.now c.index-first.result c.args.n f c.requires.0

pub loop-i-preserved : goal.loop-i-preserved
loop-i-preserved c =
    let f = rw (← c.index-first.ensures.number) at c.requires.3 in
    reach_step c.args.points.now c.index-first.result c.args.n f c.loop-i.invariant c.loop-i-test.true c.min-lo.ensures c.max-hi.ensures

pub returns : goal.returns
returns c =
    let f = rw (← c.index-first.ensures.number) at c.requires.3 in
    rw (← c.index-first.ensures.number)
    (reach_end c.args.points.now c.index-first.result c.args.n f c.loop-i.invariant c.loop-i-test.false c.max.ensures c.max-2.ensures)
