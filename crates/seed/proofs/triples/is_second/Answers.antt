-- `is_second` meets its contract: its tests are those of `is_second`, in their order. Assumes nothing.
use mathlib.Core.Path.{sym}
use borrow.Author.Tests.{eq-eqb, ne_eqb}
use Rattle.patch.specs.Search.{is_second}
use Rattle.decisions.specs.Decisions.{floats_of}
use Rattle.seed.proofs.triples.is_second.Goals as goal

pub returns-then-i-j : goal.returns-then-i-j
unfolding is_second floats_of
returns-then-i-j c = let a = c.args in rw (eq-eqb a.i a.j c.if-i-j.true)

pub returns-then-not-is_unused : goal.returns-then-not-is_unused
unfolding is_second floats_of
returns-then-not-is_unused c =
    let a = c.args in
    rw (ne_eqb a.i a.j c.if-i-j.false, sym c.is_unused.ensures, c.if-not-is_unused.true)

pub returns : goal.returns
unfolding is_second floats_of
returns c =
    let a = c.args in
    rw (
      ne_eqb a.i a.j c.if-i-j.false,
      sym c.is_unused.ensures,
      c.if-not-is_unused.false,
    ) c.is_close.ensures
