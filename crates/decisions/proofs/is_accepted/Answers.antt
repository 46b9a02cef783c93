-- `is_accepted` meets its contract: the scene's thresholds in the order in which the test takes them. Assumes nothing.
use Rattle.decisions.specs.Decisions.{accepts}
use Rattle.decisions.proofs.is_accepted.Goals as goal

pub returns : goal.returns
unfolding accepts
returns c = cc
