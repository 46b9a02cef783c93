-- `cross_squares` meets its contract. Assumes nothing.
use Rattle.intervals.proofs.Boxes.{cross_squares_held}
use Rattle.intervals.proofs.cross_squares.Goals as goal

pub returns : goal.returns
returns c =
    let s = c in cross_squares_held s.args.v s.args.w c.crosses.ensures c.magnitudes.ensures
