-- `is_rare_sliver` meets its contract: what is asked first tells nothing. Assumes nothing.
use mathlib.Core.Path.{sym, subst}
use lib.Dec.{T}
use Rattle.filters.proofs.is_rare_sliver.Goals as goal

pub returns-then-not-l : goal.returns-then-not-l
returns-then-not-l c = λ h. absurd (subst T (sym h) tt)

pub returns-then-l : goal.returns-then-l
returns-then-l c = λ h. absurd (subst T (sym h) tt)

pub returns-then-not-are_numbers : goal.returns-then-not-are_numbers
returns-then-not-are_numbers c = λ h. absurd (subst T (sym h) tt)

pub returns-then-not-is_sliver : goal.returns-then-not-is_sliver
returns-then-not-is_sliver c = λ h. absurd (subst T (sym h) tt)

pub returns : goal.returns
returns c =
    let y = c in
    let x = y in
    let d = x in
    let n = d.are_numbers in
    let a = d.args in
    λ h.
    (c.is_sliver_of.ensures h).is a.p a.q a.t (n.ensures (d.if-not-are_numbers.false))
    d.distance_squared-pq.ensures d.distance_squared-pt.ensures d.distance_squared-qt.ensures x.cross_squared-x.ensures
    y.cross_squared-y.ensures y.cross_squared-z.ensures
