-- `is_long_throughout` meets its contract. Assumes nothing.
use Rattle.filters.proofs.Long.{long_each}
use Rattle.filters.proofs.is_long_throughout.Goals as goal

pub returns : goal.returns
returns c =
    let l = c in
    let d = l in
    let x = d in
    let a = x.args in
    λ h.
    long_each a.s a.radius l.long_limit-limit.result l.long_limit-limit.ensures d.distance_squared-first.ensures
    d.distance_squared-second.ensures d.distance_squared-third.ensures
    x.cross_squared-a.ensures x.cross_squared-b.ensures x.cross_squared-c.ensures (c.are_long.ensures h)
