use mathlib.Core.Path.{sym}
use lib.ListN.{length}
use lib.Seq.{length-take-le}
use Rattle.point_order.proofs.order_in.Goals as goal

pub slice_bounds-order_all-end-2 : goal.slice_bounds-order_all-end-2
slice_bounds-order_all-end-2 c =
    let start = c in
    sym (length-take-le (length start.args.order.now) start.args.x.now start.requires.1)

pub slice_bounds-order_all-end-4 : goal.slice_bounds-order_all-end-4
slice_bounds-order_all-end-4 c =
    let start = c in
    sym (length-take-le (length start.args.order.now) start.args.y.now start.requires.2)

pub slice_bounds-order_all-end-6 : goal.slice_bounds-order_all-end-6
slice_bounds-order_all-end-6 c =
    let start = c in
    sym (length-take-le (length start.args.order.now) start.args.z.now start.requires.3)

pub order_all-requires : goal.order_all-requires
order_all-requires c =
    let start = c in
    let n = length start.args.order.now in (
      start.requires.0,
      length-take-le n start.args.x.now start.requires.1,
      length-take-le n start.args.y.now start.requires.2,
      length-take-le n
          start.args.z.now start.requires.3,
    )
