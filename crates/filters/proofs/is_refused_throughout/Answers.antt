-- `is_refused_throughout` meets its contract. Assumes nothing.
use Rattle.filters.specs.Inner.Refused.{distant}
use Rattle.filters.proofs.Throughout.{small_throughout, large_throughout, thin_throughout}
use Rattle.filters.proofs.is_refused_throughout.Goals as goal

pub returns-then-third-l : goal.returns-then-third-l
returns-then-third-l c = λ h. distant (rw (← c.distance_squared-third.ensures, c.if-third-l.true) tt)

pub returns-then-are_at_most : goal.returns-then-are_at_most
returns-then-are_at_most c =
    let x = c in
    λ h. small_throughout x.cross_squared-a.ensures x.cross_squared-b.ensures x.cross_squared-c.ensures
    (rw (← c.are_at_most.ensures, c.if-are_at_most.true) tt)

pub returns-then-are_at_least : goal.returns-then-are_at_least
returns-then-are_at_least c =
    let x = c in
    λ h. large_throughout x.cross_squared-a.ensures x.cross_squared-b.ensures x.cross_squared-c.ensures
    (rw (← c.are_at_least.ensures, c.if-are_at_least.true) tt)

pub returns : goal.returns
returns c =
    let m = c in
    let x = m in
    λ h.
    thin_throughout x.cross_squared-a.ensures x.cross_squared-b.ensures x.cross_squared-c.ensures
    c.distance_squared-first.ensures c.distance_squared.ensures
    x.distance_squared-third.ensures (rw (← m.max.ensures) m.max-largest.ensures) (c.is_thin.ensures h)
