-- `tally::is_better` meets its contract. Assumes nothing.
use Rattle.tally.proofs.Told.{fits64}
use Rattle.tally.specs.Tallies.{better}
use Rattle.tally.proofs.is_better.Goals as goal

pub overflow_mul-result : goal.overflow_mul-result
overflow_mul-result c = fits64 c.wide.ensures.1 c.wide-2.ensures.1

pub overflow_mul-result-2 : goal.overflow_mul-result-2
overflow_mul-result-2 c = fits64 c.wide-3.ensures.1 c.wide-4.ensures.1

pub returns : goal.returns
unfolding better
returns c = rw (c.wide.ensures.0, c.wide-2.ensures.0, c.wide-3.ensures.0, c.wide-4.ensures.0)
