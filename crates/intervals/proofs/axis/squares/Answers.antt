-- `axis::squares` meets its contract. Assumes nothing.
use Rattle.intervals.proofs.Ends.{squares_held}
use Rattle.intervals.proofs.axis.squares.Goals as goal

pub returns : goal.returns
returns c =
    squares_held _ _ c.lesser.ensures c.lesser-m.ensures c.greater-most.ensures
