-- The answer by the number of points and by what was judged. Assumes nothing.
use borrow.Author.Tests.{lt-ltb, le-ltb}
use Rattle.ball_pivoting.specs.Reconstruct.{reason_by}
use Rattle.ball_pivoting.proofs.reason_by.Goals as goal

pub returns-then-n-lt3 : goal.returns-then-n-lt3
unfolding reason_by
returns-then-n-lt3 c = rw (lt-ltb c.args.n 3 c.if-n-lt3.true)

pub returns-then-judged : goal.returns-then-judged
unfolding reason_by
returns-then-judged c = rw (le-ltb c.args.n 3 c.if-n-lt3.false, c.if-judged.true)

pub returns : goal.returns
unfolding reason_by
returns c = rw (le-ltb c.args.n 3 c.if-n-lt3.false, c.if-judged.false)
