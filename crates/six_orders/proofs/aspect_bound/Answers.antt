-- `aspect_bound` meets its contract: every number that is divided by is above zero.
use Rattle.six_orders.proofs.Aspects.{aspects_bounded}
use Rattle.six_orders.proofs.aspect_bound.Goals as goal

pub returns : goal.returns
returns c =
    let a = c.args in
    let p = c.requires in
    aspects_bounded a.a a.b a.c a.area p.0 p.1 p.2 c.least-half.ensures c.least-product.ensures
    (c.are_positive.ensures c.if-not-are_positive.false) (c.are_positive-2.ensures c.if-not-are_positive-2.false)
