-- `distance_squared` meets its contract.
use Rattle.vector.specs.Vector.{squared}
use Rattle.vector.proofs.distance_squared.Goals as goal

pub returns : goal.returns
unfolding squared
returns c = cc
