use Rattle.nearest.specs.Least.{lesser}
use Rattle.nearest.proofs.lesser.Goals as goal

pub returns-then-a-b : goal.returns-then-a-b
unfolding lesser
returns-then-a-b c = rw c.if-a-b.true

pub returns-else-a-b : goal.returns-else-a-b
unfolding lesser
returns-else-a-b c = rw c.if-a-b.false
