-- `is_beyond` meets its contract. Assumes nothing.
use Rattle.long_edges.specs.Inner.LongEdges.{is_beyond}
use Rattle.long_edges.proofs.is_beyond.Goals as goal

pub returns-then-is_between-2 : goal.returns-then-is_between-2
unfolding is_beyond
returns-then-is_between-2 c =
    let first = c in
    rw (← first.is_between.ensures, c.if-is_between.true, ← c.is_between-then-is_between.ensures, c.if-is_between-2.true)

pub returns-else-is_between-2 : goal.returns-else-is_between-2
unfolding is_beyond
returns-else-is_between-2 c =
    let first = c in
    rw (← first.is_between.ensures, c.if-is_between.true, ← c.is_between-then-is_between.ensures, c.if-is_between-2.false)

pub returns-else-is_between : goal.returns-else-is_between
unfolding is_beyond
returns-else-is_between c = rw (← c.is_between.ensures, c.if-is_between.false)
