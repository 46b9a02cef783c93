use Rattle.nearest.specs.Least.{nearer_number}
use Rattle.nearest.proofs.nearer_number.Goals as goal

pub returns-then-square-least : goal.returns-then-square-least
unfolding nearer_number
returns-then-square-least c = rw c.if-square-least.true

pub returns-else-square-least : goal.returns-else-square-least
unfolding nearer_number
returns-else-square-least c = rw c.if-square-least.false
