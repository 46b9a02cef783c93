-- `order_along` meets its contract: a guess that rises is the order, since a rising list of all numbers is the only
-- one; any other is sorted anew from the numbers in rising order. Assumes nothing.
use Rattle.point_order.proofs.Orders.{guessed}
use Rattle.filling.proofs.Fill.{up_small}
use Rattle.axis_sort.specs.Inner.Small.{Small}
use Rattle.axis_sort.specs.Sorted.{sorted_by}
use Rattle.axis_sort.specs.Axis.{precedes}
use Rattle.lists.specs.Lists.{up_from}
use lib.ListN.{length}
use mathlib.Core.Path.{ap, ◌∙◌, subst⁻¹}
use native.Mathlib.Omega.{arith}
use Rattle.vector.specs.Inner.Axes.{axis_index}
use Rattle.vector.proofs.Axes.{axis_below}
use Rattle.point_order.proofs.order_along.Goals as goal

pub guess-requires : goal.guess-requires
guess-requires c =
    let start = c in
    let a = start.requires.0 in
    (omega (arith, a.count, a.cloud.few), a.work_enough, start.requires.1, a.counts_enough)

pub returns-then-rises : goal.returns-then-rises
returns-then-rises c =
    let guess = c.guess in
    let start = c in
    guessed start.requires.0 c.type_inv.points _ (axis_below start.args.axis) guess.new.list guess.auto.list
    (c.rises.ensures c.if-rises.true)

pub number_order-requires : goal.number_order-requires
number_order-requires c =
    let guess = c.guess in
    let start = c in
    let a = start.requires.0 in
    omega (arith, a.count, a.cloud.few, guess.auto.list)

pub sort-requires : goal.sort-requires
sort-requires c =
    let number-order = c.number_order in
    let guess = c.guess in
    let start = c in
    let a = start.requires.0 in
    let g = guess.auto.list in (
      omega (arith, number-order.auto.order, g, a.floats_enough),
      subst⁻¹ Small number-order.ensures
          (up_small 0 (length guess.new.list) (omega (arith, g, a.count, a.cloud.few))),
    )

pub returns : goal.returns
returns c =
    let sort = c.sort in
    let number-order = c.number_order in
    let guess = c.guess in
    let start = c in
    sort.ensures ∙ ap (sorted_by (precedes start.args.points.now (axis_index start.args.axis))) (number-order.ensures ∙ ap (up_from 0) guess.auto.list)
