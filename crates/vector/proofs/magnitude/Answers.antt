-- `magnitude` meets its contract.
use Rattle.vector.specs.Vector.{magnitude}
use Rattle.vector.proofs.magnitude.Goals as goal

pub returns : goal.returns
unfolding magnitude
returns c = cc
