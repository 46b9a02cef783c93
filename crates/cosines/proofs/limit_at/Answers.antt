-- `limit_at` meets its contract.
use Rattle.cosines.specs.Inner.Cosine.{limit_at}
use Rattle.cosines.proofs.limit_at.Goals as goal

pub returns-then-is_near : goal.returns-then-is_near
unfolding limit_at
returns-then-is_near c = rw (← c.is_near.ensures, c.if-is_near.true)

pub returns-then-is_near-2 : goal.returns-then-is_near-2
unfolding limit_at
returns-then-is_near-2 c = rw (← c.is_near.ensures, c.if-is_near.false, ← c.is_near-2.ensures, c.if-is_near-2.true)

pub returns-then-is_near-3 : goal.returns-then-is_near-3
unfolding limit_at
returns-then-is_near-3 c =
    rw (
      ← c.is_near.ensures,
      c.if-is_near.false,
      ← c.is_near-2.ensures,
      c.if-is_near-2.false,
      ← c.is_near-3.ensures,
      c.if-is_near-3.true,
    )

pub returns-then-is_near-4 : goal.returns-then-is_near-4
unfolding limit_at
returns-then-is_near-4 c =
    rw (
      ← c.is_near.ensures,
      c.if-is_near.false,
      ← c.is_near-2.ensures,
      c.if-is_near-2.false,
      ← c.is_near-3.ensures,
      c.if-is_near-3.false,
      ← c.is_near-4.ensures,
      c.if-is_near-4.true,
    )

pub returns : goal.returns
unfolding limit_at
returns c =
    rw (
      ← c.is_near.ensures,
      c.if-is_near.false,
      ← c.is_near-2.ensures,
      c.if-is_near-2.false,
      ← c.is_near-3.ensures,
      c.if-is_near-3.false,
      ← c.is_near-4.ensures,
      c.if-is_near-4.false,
    )
