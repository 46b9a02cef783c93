-- `numerals::is_few` meets its contract. Assumes nothing.
use borrow.Author.Tests.{le-leb, lt-leb}
use Rattle.numerals.specs.Format.{few}
use Rattle.numerals.proofs.is_few.Goals as goal

pub returns-then-count-ge1 : goal.returns-then-count-ge1
unfolding few
returns-then-count-ge1 c = rw (le-leb _ _ c.if-count-ge1.true)

pub returns-else-count-ge1 : goal.returns-else-count-ge1
unfolding few
returns-else-count-ge1 c = rw (lt-leb _ _ c.if-count-ge1.false)
