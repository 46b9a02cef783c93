-- `is_thin_within` meets its contract.
use mathlib.Core.Path.{sym, subst}
use lib.Dec.{T}
use Rattle.numbers.specs.Rounded.{f32}
use Rattle.sliver_filters.proofs.Triangles.{thin_within}
use Rattle.sliver_filters.proofs.is_thin_within.Goals as goal

pub returns-then-not-a : goal.returns-then-not-a
returns-then-not-a c = λ h. absurd (subst T (sym h) tt)

pub returns-then-not-b : goal.returns-then-not-b
returns-then-not-b c = λ h. absurd (subst T (sym h) tt)

pub returns-then-not-c : goal.returns-then-not-c
returns-then-not-c c = λ h. absurd (subst T (sym h) tt)

pub returns : goal.returns
returns c =
    let x = c in
    let s = x in
    λ h.
    thin_within s.args.a s.args.b s.args.c s.args.cross s.args.limit (f32 0x21800000) c.max-most.ensures
    (rw (x.if-not-a.false) tt)
    (rw (x.if-not-b.false) tt)
    (rw (x.if-not-c.false) tt)
    (c.is_thin.ensures h)
