-- `is_out_of_reach` meets its contract. Assumes nothing.
use mathlib.Core.Path.{sym, subst}
use lib.Dec.{T}
use Rattle.numbers.specs.Rounded.{f32}
use Rattle.filters.proofs.Slivers.{low_is}
use Rattle.filters.proofs.is_out_of_reach.Goals as goal

pub returns-then-not-is_out_of_reach : goal.returns-then-not-is_out_of_reach
returns-then-not-is_out_of_reach c = λ h. absurd (subst T (sym h) tt)

pub returns-then-not-are_numbers : goal.returns-then-not-are_numbers
returns-then-not-are_numbers c = λ h. absurd (subst T (sym h) tt)

pub returns-then-not-are_at_most : goal.returns-then-not-are_at_most
returns-then-not-are_at_most c = λ h. absurd (subst T (sym h) tt)

pub returns : goal.returns
returns c =
    let o = c in
    let k = o in
    let d = k in
    let n = d.are_numbers in
    let b = d.is_out_of_reach in
    λ h.
    low_is (f32 0x4c800000) (rw (← b.ensures, d.if-not-is_out_of_reach.false) tt)
    d.distance_squared-first.ensures d.distance_squared-second.ensures d.distance_squared-third.ensures
    (n.ensures (d.if-not-are_numbers.false))
    (rw (← k.are_at_most.ensures, o.if-not-are_at_most.false) tt)
    o.only.ensures o.only-2.ensures o.only-3.ensures (c.is_plain.ensures h)
