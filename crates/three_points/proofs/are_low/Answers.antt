-- `are_low` meets its contract. Assumes nothing.
use mathlib.Core.Path.{sym, subst}
use lib.Dec.{T}
use Rattle.three_points.proofs.Low.{low_all}
use Rattle.three_points.proofs.are_low.Goals as goal

pub returns-then-not-are_at_most : goal.returns-then-not-are_at_most
returns-then-not-are_at_most c = λ h. absurd (subst T (sym h) tt)

pub returns : goal.returns
returns c =
    let max2 = c.max-most in
    let max = c.max in
    let cross-squared3 = c.cross_squared-z in
    let cross-squared2 = c.cross_squared-y in
    let cross-squared = c.cross_squared-x in
    let start = c in
    let a = start.args in
    let m = c.are_at_most in
    λ h.
    low_all a.s a.a a.b a.c a.p a.q a.t cross-squared.ensures cross-squared2.ensures cross-squared3.ensures max.ensures
    max2.ensures c.sqrt.ensures
    (rw (← m.ensures, c.if-not-are_at_most.false) tt) (c.is_low.ensures h)
