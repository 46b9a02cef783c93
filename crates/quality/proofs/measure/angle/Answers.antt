-- `angle` meets its contract.
use Rattle.quality.specs.Measures.{angle}
use Rattle.quality.proofs.measure.angle.Goals as goal

pub returns : goal.returns
unfolding angle
returns c = cc
