-- `order_all` meets its contract: each call of `order_along` leaves the order along its axis, and with the three orders
-- and the numbers in rising order the splits are those of the tree. Assumes nothing.
use Rattle.point_order.proofs.Orders.{start_ready, ordered_all, as_long}
use Rattle.axis_sort.specs.Sorted.{sorted_by}
use Rattle.axis_sort.specs.Axis.{precedes}
use Rattle.lists.specs.Lists.{up_from}
use Prim.Native.Nat.{ℕ}
use mathlib.Core.Path.{refl, ap, ◌∙◌}
use native.Mathlib.Omega.{arith}
use Rattle.point_order.proofs.order_all.Goals as goal

pub order_along-requires : goal.order_along-requires
order_along-requires c =
    let start = c in
    (as_long start.requires.0 start.requires.1 (refl) (refl) (refl), omega (arith, start.requires.1))

pub order_along-requires-2 : goal.order_along-requires-2
order_along-requires-2 c =
    let order-along = c.order_along in
    let start = c in (
      as_long start.requires.0 start.requires.2 order-along.auto.work order-along.auto.counts
          order-along.auto.floats,
      omega (arith, start.requires.2, order-along.auto.keys),
    )

pub order_along-requires-3 : goal.order_along-requires-3
order_along-requires-3 c =
    let order-along2 = c.order_along-2 in
    let order-along = c.order_along in
    let start = c in (
      as_long start.requires.0 start.requires.3 (order-along2.auto.work ∙ order-along.auto.work)
          (order-along2.auto.counts ∙ order-along.auto.counts)
          (order-along2.auto.floats ∙ order-along.auto.floats),
      omega
          (arith, start.requires.3, order-along.auto.keys, order-along2.auto.keys),
    )

pub number_order-requires : goal.number_order-requires
number_order-requires c =
    let order-along3 = c.order_along-3 in
    let order-along2 = c.order_along-2 in
    let order-along = c.order_along in
    let start = c in
    omega (
      arith,
      start.requires.0.count,
      start.requires.0.cloud.few,
      order-along.auto.keys,
      order-along2.auto.keys,
      order-along3.auto.keys,
    )

pub split-requires : goal.split-requires
split-requires c =
    let number-order = c.number_order in
    let order-along3 = c.order_along-3 in
    let order-along2 = c.order_along-2 in
    let order-along = c.order_along in
    let start = c in
    let p = start.args.points.now in
    start_ready number-order.new.order start.requires.0 c.type_inv.points order-along.new.list order-along2.new.list
    order-along3.new.list
    (number-order.ensures ∙ ap (up_from 0) (order-along3.auto.keys ∙ order-along2.auto.keys ∙ order-along.auto.keys))
    (order-along.ensures ∙ ap (λ (n : ℕ). sorted_by (precedes p 0) (up_from 0 n)) start.requires.1)
    (order-along2.ensures ∙ ap (λ (n : ℕ). sorted_by (precedes p 1) (up_from 0 n)) start.requires.2)
    (order-along3.ensures ∙ ap (λ (n : ℕ). sorted_by (precedes p 2) (up_from 0 n)) start.requires.3)
    (order-along3.auto.work ∙ order-along2.auto.work ∙ order-along.auto.work)
    (order-along3.auto.floats ∙ order-along2.auto.floats ∙ order-along.auto.floats)

pub shape_of-order : goal.shape_of-order
shape_of-order c =
    let split = c.split in
    let number-order = c.number_order in
    let order-along3 = c.order_along-3 in
    let order-along2 = c.order_along-2 in
    let order-along = c.order_along in
    split.auto.order ∙ number-order.auto.order ∙ order-along3.auto.keys ∙ order-along2.auto.keys ∙ order-along.auto.keys

pub shape_of-x : goal.shape_of-x
shape_of-x c =
    let split = c.split in
    let order-along = c.order_along in
    split.auto.x ∙ order-along.auto.list

pub shape_of-y : goal.shape_of-y
shape_of-y c =
    let split = c.split in
    let order-along2 = c.order_along-2 in
    split.auto.y ∙ order-along2.auto.list

pub shape_of-z : goal.shape_of-z
shape_of-z c =
    let split = c.split in
    let order-along3 = c.order_along-3 in
    split.auto.z ∙ order-along3.auto.list

pub shape_of-work : goal.shape_of-work
shape_of-work c =
    let split = c.split in
    let order-along3 = c.order_along-3 in
    let order-along2 = c.order_along-2 in
    let order-along = c.order_along in
    split.auto.work ∙ order-along3.auto.work ∙ order-along2.auto.work ∙ order-along.auto.work

pub shape_of-counts : goal.shape_of-counts
shape_of-counts c =
    let order-along3 = c.order_along-3 in
    let order-along2 = c.order_along-2 in
    let order-along = c.order_along in
    order-along3.auto.counts ∙ order-along2.auto.counts ∙ order-along.auto.counts

pub shape_of-floats : goal.shape_of-floats
shape_of-floats c =
    let split = c.split in
    let order-along3 = c.order_along-3 in
    let order-along2 = c.order_along-2 in
    let order-along = c.order_along in
    split.auto.boxes ∙ order-along3.auto.floats ∙ order-along2.auto.floats
    ∙ order-along.auto.floats

pub returns : goal.returns
returns c =
    let split = c.split in
    let number-order = c.number_order in
    let order-along3 = c.order_along-3 in
    let order-along2 = c.order_along-2 in
    let order-along = c.order_along in
    let start = c in
    ordered_all number-order.new.order split.new.order _ split.new.boxes _ start.requires.0
    (number-order.ensures ∙ ap (up_from 0) (order-along3.auto.keys ∙ order-along2.auto.keys ∙ order-along.auto.keys))
    split.ensures
