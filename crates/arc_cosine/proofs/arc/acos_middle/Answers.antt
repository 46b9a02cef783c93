-- `acos_middle` meets its contract.
use Rattle.numbers.specs.Acos.{acos_middle}
use Rattle.arc_cosine.proofs.arc.acos_middle.Goals as goal

pub returns : goal.returns
unfolding acos_middle
returns c = cc
