-- `cell_bounds::axis::is_ordinary` meets its contract. Assumes nothing.
use Rattle.cell_bounds.specs.Inner.Axis.{ordinary}
use Rattle.cell_bounds.proofs.axis.is_ordinary.Goals as goal

pub returns-then-x : goal.returns-then-x
unfolding ordinary
returns-then-x c = rw c.if-x.true

pub returns-else-x : goal.returns-else-x
unfolding ordinary
returns-else-x c = rw c.if-x.false
