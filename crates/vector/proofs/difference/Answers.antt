-- `difference` meets its contract.
use Rattle.vector.specs.Vector.{difference}
use Rattle.vector.proofs.difference.Goals as goal

pub returns : goal.returns
unfolding difference
returns c = cc
