-- `are_at_most` meets its contract.

use Rattle.filters.proofs.are_at_most.Goals as goal

pub returns-then-b-x : goal.returns-then-b-x
returns-then-b-x c = rw (c.if-a-x.true, c.if-b-x.true)

pub returns-else-b-x : goal.returns-else-b-x
returns-else-b-x c = rw (c.if-a-x.true, c.if-b-x.false)

pub returns-else-a-x : goal.returns-else-a-x
returns-else-a-x c = rw c.if-a-x.false
