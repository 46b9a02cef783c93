-- `are_at_least` meets its contract.

use Rattle.filters.proofs.are_at_least.Goals as goal

pub returns-then-x-b : goal.returns-then-x-b
returns-then-x-b c = rw (c.if-x-a.true, c.if-x-b.true)

pub returns-else-x-b : goal.returns-else-x-b
returns-else-x-b c = rw (c.if-x-a.true, c.if-x-b.false)

pub returns-else-x-a : goal.returns-else-x-a
returns-else-x-a c = rw c.if-x-a.false
