-- `is_other` meets its contract. Assumes nothing.
use borrow.Author.Tests.{lt-ltb, le-ltb}
use Rattle.seedless.proofs.is_other.Goals as goal

pub returns-then-i-k : goal.returns-then-i-k
returns-then-i-k c = let a = c.args in rw (lt-ltb a.i a.k c.if-i-k.true)

pub returns-else-i-k : goal.returns-else-i-k
returns-else-i-k c = let a = c.args in rw (le-ltb a.i a.k c.if-i-k.false)
