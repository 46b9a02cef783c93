-- `largest` meets its contract.
use Rattle.quality.specs.Measures.{largest}
use Rattle.quality.proofs.measure.largest.Goals as goal

pub returns : goal.returns
unfolding largest
returns c = cc
