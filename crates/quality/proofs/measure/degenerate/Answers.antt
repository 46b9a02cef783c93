-- `degenerate` meets its contract.
use Rattle.quality.specs.Measures.{degenerate}
use Rattle.numbers.proofs.Compare.{infinite}
use Rattle.quality.proofs.measure.degenerate.Goals as goal

pub returns : goal.returns
unfolding degenerate
returns c = rw infinite
