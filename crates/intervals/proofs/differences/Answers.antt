-- `differences` meets its contract. Assumes nothing.
use Rattle.intervals.specs.Inner.Enclosed.{differences_of}
use Rattle.intervals.proofs.differences.Goals as goal

pub returns : goal.returns
unfolding differences_of
returns c = cc
