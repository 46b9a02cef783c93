-- `crosses` meets its contract. Assumes nothing.
use Rattle.intervals.proofs.Boxes.{crosses_held}
use Rattle.intervals.proofs.crosses.Goals as goal

pub returns : goal.returns
returns c =
    let s = c in crosses_held s.args.v s.args.w c.parts-x.ensures c.parts-y.ensures
    c.parts-z.ensures
