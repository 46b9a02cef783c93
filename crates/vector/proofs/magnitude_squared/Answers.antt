-- `magnitude_squared` meets its contract.
use Rattle.vector.specs.Vector.{magnitude_squared}
use Rattle.vector.proofs.magnitude_squared.Goals as goal

pub returns : goal.returns
unfolding magnitude_squared
returns c = cc
