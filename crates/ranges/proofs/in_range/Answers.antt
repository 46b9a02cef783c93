-- `ranges::in_range` meets its contract. Assumes nothing.
use Rattle.ranges.specs.Range.{inside}
use Rattle.ranges.proofs.in_range.Goals as goal

pub returns-then-lo-x : goal.returns-then-lo-x
unfolding inside
returns-then-lo-x c = rw c.if-lo-x.true

pub returns-else-lo-x : goal.returns-else-lo-x
unfolding inside
returns-else-lo-x c = rw c.if-lo-x.false
