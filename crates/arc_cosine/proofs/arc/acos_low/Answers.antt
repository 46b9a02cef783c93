-- `acos_low` meets its contract.
use Rattle.numbers.specs.Acos.{acos_low}
use Rattle.arc_cosine.proofs.arc.acos_low.Goals as goal

pub returns : goal.returns
unfolding acos_low
returns c = cc
