-- `middle_of` meets its contract, axis by axis. Assumes nothing.
use Rattle.decisions.specs.Decisions.{middle}
use Rattle.decisions.proofs.middle_of.Goals as goal

pub returns : goal.returns
unfolding middle
returns c = cc
