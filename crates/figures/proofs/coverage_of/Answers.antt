-- `figures::coverage_of` meets its contract. Assumes nothing.
use Rattle.figures.specs.Working.{coverage_of}
use Rattle.figures.proofs.coverage_of.Goals as goal

pub returns : goal.returns
unfolding coverage_of
returns c = rw (c.lowest.ensures, c.wide.ensures.0, c.wide-2.ensures.0)
