-- `axis::lesser` meets its contract. Assumes nothing.
use lib.Ieee.Bits.{is_false}
use Rattle.numbers.specs.Order.{minimum}
use lib.Ieee.{is_nan}
use Rattle.intervals.proofs.axis.lesser.Goals as goal

pub returns-then-b-a : goal.returns-then-b-a
unfolding minimum
returns-then-b-a c =
    λ n. rw (is_false (is_nan c.args.a) n, c.if-b-a.true)

pub returns-else-b-a : goal.returns-else-b-a
unfolding minimum
returns-else-b-a c =
    λ n. rw (is_false (is_nan c.args.a) n, c.if-b-a.false)
