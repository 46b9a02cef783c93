-- `axis::greater` meets its contract. Assumes nothing.
use lib.Ieee.Bits.{is_false}
use Rattle.numbers.specs.Order.{maximum}
use lib.Ieee.{is_nan}
use Rattle.intervals.proofs.axis.greater.Goals as goal

pub returns-then-b-a : goal.returns-then-b-a
unfolding maximum
returns-then-b-a c =
    λ n. rw (is_false (is_nan c.args.a) n, c.if-b-a.true)

pub returns-else-b-a : goal.returns-else-b-a
unfolding maximum
returns-else-b-a c =
    λ n. rw (is_false (is_nan c.args.a) n, c.if-b-a.false)
