-- `ratio` meets its contract.
use Rattle.numbers.specs.Acos.{R}
use Rattle.arc_cosine.proofs.arc.ratio.Goals as goal

pub returns : goal.returns
unfolding R
returns c = cc
