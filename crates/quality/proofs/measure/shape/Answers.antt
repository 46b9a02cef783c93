-- `shape` meets its contract.
use Rattle.quality.specs.Inner.Shape.{shape}
use Rattle.quality.proofs.measure.shape.Goals as goal

pub returns : goal.returns
unfolding shape
returns c = cc
