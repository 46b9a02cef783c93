-- `is_refused_within` meets its contract. Assumes nothing.
use mathlib.Core.Path.{sym, subst}
use lib.Dec.{T}
use Rattle.box_filters.proofs.Within.{far_within, unreached_within, within_by}
use Rattle.box_filters.proofs.is_refused_within.Goals as goal

pub returns-then-e-l : goal.returns-then-e-l
returns-then-e-l c =
    let e = c in
    λ h. far_within e.point_box-at.ensures e.edges_of-e.ensures (rw c.if-e-l.true tt)

pub returns-then-is_unreached : goal.returns-then-is_unreached
returns-then-is_unreached c =
    let u = c in
    let e = u in
    λ _. unreached_within e.point_box-at.ensures e.edges_of-e.ensures (u.is_unreached.ensures c.if-is_unreached.true)

pub returns-then-not-are_at_most : goal.returns-then-not-are_at_most
returns-then-not-are_at_most c = λ h. absurd (subst T (sym h) tt)

pub returns-then-not-refuses : goal.returns-then-not-refuses
returns-then-not-refuses c = λ h. absurd (subst T (sym h) tt)

pub areas_of-area-requires : goal.areas_of-area-requires
areas_of-area-requires c =
    let x = c in rw (← x.differences.ensures, ← x.differences-2.ensures) x.cross_squares-own.ensures

pub returns : goal.returns
returns c =
    let a = c in
    let m = a in
    let e = m in
    λ h. within_by e.point_box-at.ensures e.edges_of-e.ensures
    (rw (← m.are_at_most.ensures, a.if-not-are_at_most.false) tt)
    a.areas_of-area.ensures (c.refuses-2.ensures h)
