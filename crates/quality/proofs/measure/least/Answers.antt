-- `least` meets its contract.
use Rattle.quality.specs.Measures.{least}
use Rattle.quality.proofs.measure.least.Goals as goal

pub returns : goal.returns
unfolding least
returns c = cc
