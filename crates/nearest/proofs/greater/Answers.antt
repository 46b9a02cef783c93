use Rattle.nearest.specs.Least.{greater}
use Rattle.nearest.proofs.greater.Goals as goal

pub returns-then-a-b : goal.returns-then-a-b
unfolding greater
returns-then-a-b c = rw c.if-a-b.true

pub returns-else-a-b : goal.returns-else-a-b
unfolding greater
returns-else-a-b c = rw c.if-a-b.false
