-- `is_plain` meets its contract.
use Rattle.thin.specs.Inner.Thin.{is_plain_triangle}
use Rattle.thin.proofs.is_plain.Goals as goal

pub returns-then-is_between-3 : goal.returns-then-is_between-3
unfolding is_plain_triangle
returns-then-is_between-3 c =
    let third = c in
    let second = third in
    let first = second in
    rw (
      ← first.is_between.ensures,
      second.if-is_between.true,
      ← second.is_between-then-is_between.ensures,
      third.if-is_between-2.true,
      ← third.is_between-then-is_between-2.ensures,
      c.if-is_between-3.true,
    ) c.is_between-then-is_between-3.ensures

pub returns-else-is_between-3 : goal.returns-else-is_between-3
unfolding is_plain_triangle
returns-else-is_between-3 c =
    let third = c in
    let second = third in
    let first = second in
    rw (
      ← first.is_between.ensures,
      second.if-is_between.true,
      ← second.is_between-then-is_between.ensures,
      third.if-is_between-2.true,
      ← third.is_between-then-is_between-2.ensures,
      c.if-is_between-3.false,
    )

pub returns-else-is_between-2 : goal.returns-else-is_between-2
unfolding is_plain_triangle
returns-else-is_between-2 c =
    let second = c in
    let first = second in
    rw (← first.is_between.ensures, second.if-is_between.true, ← second.is_between-then-is_between.ensures, c.if-is_between-2.false)

pub returns-else-is_between : goal.returns-else-is_between
unfolding is_plain_triangle
returns-else-is_between c = rw (← c.is_between.ensures, c.if-is_between.false)
