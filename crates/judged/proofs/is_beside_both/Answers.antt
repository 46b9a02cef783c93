-- `is_beside_both` meets its contract: its tests are those of `is_beside_both`, in their order. Assumes nothing.
use mathlib.Core.Path.{sym}
use native.Mathlib.Omega.{arith}
use borrow.Author.Tests.{eq-eqb, ne_eqb}
use Rattle.judged.specs.Inner.Triples.{is_beside_both}
use Rattle.judged.proofs.is_beside_both.Goals as goal

pub is_close-requires : goal.is_close-requires
is_close-requires c =
    let p = c.requires in
    (omega (arith, p.1, p.0.held.points_long), omega (arith, p.2, p.0.held.points_long))

pub returns-then-is_beside : goal.returns-then-is_beside
unfolding is_beside_both
returns-then-is_beside c =
    let a = c.args in
    rw (ne_eqb a.j a.k c.if-j-k.true, sym c.is_beside.ensures, c.if-is_beside.true) c.is_close.ensures

pub returns-else-is_beside : goal.returns-else-is_beside
unfolding is_beside_both
returns-else-is_beside c =
    let a = c.args in
    rw (ne_eqb a.j a.k c.if-j-k.true, sym c.is_beside.ensures, c.if-is_beside.false)

pub returns-else-j-k : goal.returns-else-j-k
unfolding is_beside_both
returns-else-j-k c = rw (eq-eqb c.args.j c.args.k c.if-j-k.false)
