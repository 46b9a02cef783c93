-- `is_sliver_along` meets its contract.
use mathlib.Core.Path.{sym, subst}
use lib.Dec.{T}
use Rattle.sliver_filters.proofs.Triangles.{slivers_along}
use Rattle.sliver_filters.proofs.is_sliver_along.Goals as goal

pub returns-then-not-is_narrow : goal.returns-then-not-is_narrow
returns-then-not-is_narrow c = λ h. absurd (subst T (sym h) tt)

pub returns-then-not-is_narrow-2 : goal.returns-then-not-is_narrow-2
returns-then-not-is_narrow-2 c = λ h. absurd (subst T (sym h) tt)

pub returns : goal.returns
returns c =
    let t = c.is_narrow-2 in
    let p = c.is_narrow in
    let a = c.args in
    λ h.
    slivers_along a.l a.a a.b a.c a.cross (p.ensures (c.if-not-is_narrow.false))
    (t.ensures (c.if-not-is_narrow-2.false)) (c.is_thin_within.ensures h)
