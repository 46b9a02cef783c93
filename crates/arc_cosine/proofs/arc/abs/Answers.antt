-- `abs` meets its contract.
use Rattle.numbers.specs.Acos.{abs}
use Rattle.arc_cosine.proofs.arc.abs.Goals as goal

pub returns-then-v : goal.returns-then-v
unfolding abs
returns-then-v c = rw c.if-v.true

pub returns-else-v : goal.returns-else-v
unfolding abs
returns-else-v c = rw c.if-v.false
