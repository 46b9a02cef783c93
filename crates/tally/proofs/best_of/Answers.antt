-- `tally::best_of` meets its contract. Assumes nothing.
use Rattle.tally.specs.Tallies.{better_patch}
use Rattle.tally.proofs.best_of.Goals as goal

pub returns-then-is_better : goal.returns-then-is_better
unfolding better_patch
returns-then-is_better c = rw (← c.is_better.ensures, c.if-is_better.true)

pub returns : goal.returns
unfolding better_patch
returns c = rw (← c.is_better.ensures, c.if-is_better.false)
