-- `tally::worst_of` meets its contract. Assumes nothing.
use Rattle.tally.specs.Tallies.{worst_of}
use Rattle.tally.proofs.worst_of.Goals as goal

pub returns-then-is_better : goal.returns-then-is_better
unfolding worst_of
returns-then-is_better c = rw (← c.is_better.ensures, c.if-is_better.true)

pub returns : goal.returns
unfolding worst_of
returns c = rw (← c.is_better.ensures, c.if-is_better.false)
