-- `min` meets its contract.
use Rattle.numbers.specs.Order.{minimum}
use Rattle.numbers.proofs.Compare.{is_nan_lem}
use Rattle.numbers.proofs.min.Goals as goal

pub returns-then-a : goal.returns-then-a
unfolding minimum
returns-then-a c = rw (is_nan_lem, c.if-a.true)

pub returns-then-b-a : goal.returns-then-b-a
unfolding minimum
returns-then-b-a c = rw (is_nan_lem, c.if-a.false, c.if-b-a.true)

pub returns-else-b-a : goal.returns-else-b-a
unfolding minimum
returns-else-b-a c = rw (is_nan_lem, c.if-a.false, c.if-b-a.false)
