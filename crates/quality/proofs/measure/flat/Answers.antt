-- `flat_shape` meets its contract.
use Rattle.quality.specs.Inner.Shape.{flat_shape}
use Rattle.numbers.proofs.Compare.{infinite}
use Rattle.quality.proofs.measure.flat.Goals as goal

pub returns : goal.returns
unfolding flat_shape
returns c = rw infinite
