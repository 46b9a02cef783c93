-- `is_plain` meets its contract. Assumes nothing.
use Rattle.long_edges.specs.Inner.LongEdges.{is_plain_triple}
use Rattle.long_edges.proofs.is_plain.Goals as goal

pub returns-then-is_between-2 : goal.returns-then-is_between-2
unfolding is_plain_triple
returns-then-is_between-2 c =
    let second = c in
    let first = second in
    rw (← first.is_between.ensures, second.if-is_between.true, ← second.is_between-then-is_between.ensures, c.if-is_between-2.true) c.is_between-then-is_between-2.ensures

pub returns-else-is_between-2 : goal.returns-else-is_between-2
unfolding is_plain_triple
returns-else-is_between-2 c =
    let second = c in
    let first = second in
    rw (← first.is_between.ensures, second.if-is_between.true, ← second.is_between-then-is_between.ensures, c.if-is_between-2.false)

pub returns-else-is_between : goal.returns-else-is_between
unfolding is_plain_triple
returns-else-is_between c = rw (← c.is_between.ensures, c.if-is_between.false)
