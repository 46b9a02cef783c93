-- `radius_of` meets its contract.
use Rattle.quality.specs.Measures.{radius_of}
use Rattle.quality.proofs.radius_of.Goals as goal

pub returns : goal.returns
unfolding radius_of
returns c = cc
