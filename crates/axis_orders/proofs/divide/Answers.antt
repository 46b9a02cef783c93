use mathlib.Core.Path.{refl}
use native.Mathlib.Omega.{arith}
use Rattle.axis_orders.proofs.Halves.{divided}
use Rattle.axis_orders.proofs.Ends.{order_sizes}
use Rattle.axis_orders.proofs.divide.Goals as goal

pub put_along-requires : goal.put_along-requires
put_along-requires c =
    order_sizes c.requires.numbers c.requires.orders

pub part-requires : goal.part-requires
part-requires c = let d = c.requires in
    omega (arith, (order_sizes d.numbers d.orders).0, d.work_enough)

pub part-requires-2 : goal.part-requires-2
part-requires-2 c =
    let part = c.part in
    let d = c.requires in
    omega (arith, (order_sizes d.numbers d.orders).1, d.work_enough, part.auto.work)

pub part-requires-3 : goal.part-requires-3
part-requires-3 c =
    let part2 = c.part-2 in
    let part = c.part in
    let d = c.requires in
    omega (arith, (order_sizes d.numbers d.orders).2, d.work_enough, part.auto.work, part2.auto.work)

pub returns : goal.returns
returns c =
    let part3 = c.part-3 in
    let part2 = c.part-2 in
    let part = c.part in
    let coordinate = c.coordinate-at in
    let put_along = c.put_along in
    divided c.requires put_along.new.order part.new.list part2.new.list part3.new.list _ _
    put_along.ensures refl coordinate.ensures part.ensures part2.ensures part3.ensures
