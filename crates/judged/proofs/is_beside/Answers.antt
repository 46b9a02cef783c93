-- `is_beside` meets its contract: its tests are those of `is_beside`, in their order. Assumes nothing.
use mathlib.Core.Path.{sym}
use native.Mathlib.Omega.{arith}
use borrow.Author.Tests.{eq-eqb, ne_eqb}
use Rattle.judged.specs.Inner.Triples.{is_beside}
use Rattle.judged.proofs.Triples.{near_is}
use Rattle.judged.proofs.is_beside.Goals as goal

pub is_near-requires : goal.is_near-requires
is_near-requires c =
    let p = c.requires in
    (p.1, p.0.held.few, omega (arith, p.0.held.work_long))

pub is_close-requires : goal.is_close-requires
is_close-requires c =
    let p = c.requires in
    (omega (arith, p.0.inside, p.0.held.points_long), omega (arith, p.1, p.0.held.points_long))

pub returns-then-is_near : goal.returns-then-is_near
unfolding is_beside
returns-then-is_near c =
    rw (
      ne_eqb c.args.i c.args.k c.if-i-k.true,
      sym (near_is c.requires.0 c.requires.1 c.is_near.ensures),
      c.if-is_near.true,
    ) c.is_close.ensures

pub returns-else-is_near : goal.returns-else-is_near
unfolding is_beside
returns-else-is_near c =
    rw (
      ne_eqb c.args.i c.args.k c.if-i-k.true,
      sym (near_is c.requires.0 c.requires.1 c.is_near.ensures),
      c.if-is_near.false,
    )

pub returns-else-i-k : goal.returns-else-i-k
unfolding is_beside
returns-else-i-k c = rw (eq-eqb c.args.i c.args.k c.if-i-k.false)
