-- `distance` meets its contract.
use Rattle.vector.specs.Vector.{distance}
use Rattle.vector.proofs.distance.Goals as goal

pub returns : goal.returns
unfolding distance
returns c = cc
