-- `cross` meets its contract.
use Rattle.vector.specs.Vector.{cross}
use Rattle.vector.proofs.cross.Goals as goal

pub returns : goal.returns
unfolding cross
returns c = cc
