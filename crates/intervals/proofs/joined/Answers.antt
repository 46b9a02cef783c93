-- `joined` meets its contract. Assumes nothing.
use Rattle.intervals.proofs.Boxes.{joined_held}
use Rattle.intervals.proofs.joined.Goals as goal

pub returns : goal.returns
returns c = joined_held _ _ c.lesser-lo.ensures c.greater-hi.ensures
