-- `build` meets its contract: the order stands in front, the boxes' bits behind it, then zeros, which are the three
-- parts of `built`; the rest is untouched by each of the three calls. Assumes nothing.
use lib.Dec.{lit≤}
use native.Mathlib.Omega.{arith}
use Rattle.point_index.proofs.Building.{end_fits, index_fits, boxes_count, ordered_size, built_end}
use lib.Seq.{length-take-le}
use lib.ListN.{length, take}
use Prim.Native.Nat.{◌/◌}
use mathlib.Core.Path.{◌≡◌, sym, ◌∙◌}
use Rattle.point_index.proofs.build.Goals as goal

pub slice_bounds-order_points-end : goal.slice_bounds-order_points-end
slice_bounds-order_points-end c = omega (arith, c.requires.index_enough)

pub slice_bounds-order_points-end-2 : goal.slice_bounds-order_points-end-2
slice_bounds-order_points-end-2 c =
    let start = c in
    sym (length-take-le (length start.args.points.now / 3) start.args.index.now (omega (arith, start.requires.index_enough)))

pub order_points-end-requires : goal.order_points-end-requires
order_points-end-requires c =
    let start = c in
    let n = length start.args.points.now / 3 in
    let l : length (take n start.args.index.now) ≡ n = length-take-le n start.args.index.now
    (omega (arith, start.requires.index_enough)) in record {
      cloud = start.requires.cloud;
      count = l;
      work_enough = omega arith;
      counts_enough = lit≤ tt;
      floats_enough = omega (arith, start.requires.floats_enough);
    }

pub slice_bounds-put_bits-end : goal.slice_bounds-put_bits-end
slice_bounds-put_bits-end c =
    let order-points = c.order_points-end in
    let start = c in
    end_fits start.args.points.now start.args.index.now order-points.new.order start.args.floats.now order-points.new.floats
    order-points.result start.requires order-points.ensures order-points.auto.order order-points.auto.floats

pub slice_bounds-put_bits-end-2 : goal.slice_bounds-put_bits-end-2
slice_bounds-put_bits-end-2 c =
    let order-points = c.order_points-end in
    let start = c in
    sym (boxes_count start.args.points.now start.args.index.now order-points.new.order start.args.floats.now order-points.new.floats
    order-points.result start.requires order-points.ensures order-points.auto.order order-points.auto.floats)

pub put_bits-requires : goal.put_bits-requires
put_bits-requires c =
    let order-points = c.order_points-end in
    let start = c in
    omega (
      arith,
      boxes_count start.args.points.now start.args.index.now order-points.new.order start.args.floats.now
          order-points.new.floats order-points.result start.requires order-points.ensures order-points.auto.order order-points.auto.floats,
      ordered_size start.args.points.now start.args.index.now order-points.new.order start.args.floats.now order-points.new.floats
          order-points.result start.requires order-points.ensures order-points.auto.order order-points.auto.floats,
      index_fits start.args.points.now
          start.args.index.now order-points.new.order start.args.floats.now order-points.new.floats order-points.result start.requires
          order-points.ensures order-points.auto.order order-points.auto.floats,
      start.requires.index_enough,
    )

pub overflow_add-n : goal.overflow_add-n
overflow_add-n c =
    let order-points = c.order_points-end in
    let start = c in
    omega (
      arith,
      index_fits start.args.points.now start.args.index.now order-points.new.order start.args.floats.now
          order-points.new.floats order-points.result start.requires order-points.ensures order-points.auto.order order-points.auto.floats,
      start.requires.cloud.few,
    )

pub clear_between-requires : goal.clear_between-requires
clear_between-requires c =
    let order-points = c.order_points-end in
    let start = c in (
      index_fits start.args.points.now start.args.index.now order-points.new.order start.args.floats.now order-points.new.floats
          order-points.result start.requires order-points.ensures order-points.auto.order order-points.auto.floats,
      omega (
        arith,
        c.put_bits.auto.index,
        ordered_size start.args.points.now start.args.index.now order-points.new.order
            start.args.floats.now order-points.new.floats order-points.result start.requires order-points.ensures order-points.auto.order
            order-points.auto.floats,
        start.requires.index_enough,
      ),
    )

pub shape_of-index : goal.shape_of-index
shape_of-index c =
    let put-bits = c.put_bits in
    let order-points = c.order_points-end in
    let start = c in
    c.clear_between.auto.index ∙ put-bits.auto.index ∙ ordered_size start.args.points.now start.args.index.now
    order-points.new.order start.args.floats.now order-points.new.floats order-points.result start.requires order-points.ensures
    order-points.auto.order order-points.auto.floats

pub returns : goal.returns
returns c =
    let put-bits = c.put_bits in
    let order-points = c.order_points-end in
    let start = c in
    built_end start.args.points.now start.args.index.now order-points.new.order start.args.floats.now order-points.new.floats
    order-points.result start.requires order-points.ensures order-points.auto.order order-points.auto.floats put-bits.new.index
    c.clear_between.new.index put-bits.ensures c.clear_between.ensures
