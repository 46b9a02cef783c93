-- `score` meets its contract.
use Rattle.quality.specs.Measures.{score}
use Rattle.quality.proofs.score.Goals as goal

pub returns : goal.returns
unfolding score
returns c = cc
