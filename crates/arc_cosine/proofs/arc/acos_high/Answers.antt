-- `acos_high` meets its contract.
use Rattle.numbers.specs.Acos.{acos_high}
use Rattle.arc_cosine.proofs.arc.acos_high.Goals as goal

pub returns : goal.returns
unfolding acos_high
returns c = cc
