-- `split` meets its contract, by induction on how many points the part has. Eight or fewer are a leaf: the box alone is
-- written. Else `bound` writes the box and `divide` halves the orders, and `middle` is what is then known. Both calls
-- are citations of the claim at a smaller length (`first_ready`, `second_ready`), and `part_end` puts their results
-- together. Most of the rest says that the lent halves lie inside their slices (`half_bytes`, `behind_room`). Assumes
-- nothing.
use mathlib.Core.Path.{sym, ◌∙◌}
use Prim.Native.Nat.{◌/◌}
use lib.ListN.{length}
use lib.Seq.{length-take-le}
use Rattle.axis_sort.proofs.Parts.{size_2}
use Rattle.tree_build.proofs.Splitting.{bound_room, leaf_end, dividing, middle, first_size, first_ready, second_size, second_ready, behind_room}
use Rattle.tree_build.proofs.Splitting.{part_end, half_bytes, next_fits}
use native.Mathlib.Omega.{arith}
use Rattle.tree_build.proofs.+split.Goals as goal

pub bound-axis-requires : goal.bound-axis-requires
bound-axis-requires t c = bound_room c.requires

pub returns-then-n-le8 : goal.returns-then-n-le8
returns-then-n-le8 t c = leaf_end c.requires c.bound-axis.ensures c.if-n-le8.true

pub divide-requires : goal.divide-requires
divide-requires t c =
    let bound = c.bound-axis in
    dividing c.requires bound.ensures

pub slice_bounds-split-end : goal.slice_bounds-split-end
slice_bounds-split-end t c =
    let divide = c.divide in
    let if1 = c.if-n-le8 in
    let bound = c.bound-axis in
    let k = middle c.requires if1.false bound.ensures divide.ensures divide.auto.x divide.auto.y
    divide.auto.z in
    k.order_fits

pub slice_bounds-split-end-2 : goal.slice_bounds-split-end-2
slice_bounds-split-end-2 t c =
    let divide = c.divide in
    let if1 = c.if-n-le8 in
    let bound = c.bound-axis in
    let k = middle c.requires if1.false bound.ensures divide.ensures divide.auto.x divide.auto.y
    divide.auto.z in
    sym (length-take-le (length c.args.order.now / 2) divide.new.order k.order_fits)

pub slice_bounds-split-end-3 : goal.slice_bounds-split-end-3
slice_bounds-split-end-3 t c =
    let divide = c.divide in
    let if1 = c.if-n-le8 in
    let bound = c.bound-axis in
    let k = middle c.requires if1.false bound.ensures divide.ensures divide.auto.x divide.auto.y
    divide.auto.z in
    k.x_fits

pub slice_bounds-split-end-4 : goal.slice_bounds-split-end-4
slice_bounds-split-end-4 t c =
    let divide = c.divide in
    let if1 = c.if-n-le8 in
    let bound = c.bound-axis in
    let k = middle c.requires if1.false bound.ensures divide.ensures divide.auto.x divide.auto.y
    divide.auto.z in
    sym (length-take-le (length c.args.order.now / 2) divide.new.x k.x_fits)

pub slice_bounds-split-end-5 : goal.slice_bounds-split-end-5
slice_bounds-split-end-5 t c =
    let divide = c.divide in
    let if1 = c.if-n-le8 in
    let bound = c.bound-axis in
    let k = middle c.requires if1.false bound.ensures divide.ensures divide.auto.x divide.auto.y
    divide.auto.z in
    k.y_fits

pub slice_bounds-split-end-6 : goal.slice_bounds-split-end-6
slice_bounds-split-end-6 t c =
    let divide = c.divide in
    let if1 = c.if-n-le8 in
    let bound = c.bound-axis in
    let k = middle c.requires if1.false bound.ensures divide.ensures divide.auto.x divide.auto.y
    divide.auto.z in
    sym (length-take-le (length c.args.order.now / 2) divide.new.y k.y_fits)

pub slice_bounds-split-end-7 : goal.slice_bounds-split-end-7
slice_bounds-split-end-7 t c =
    let divide = c.divide in
    let if1 = c.if-n-le8 in
    let bound = c.bound-axis in
    let k = middle c.requires if1.false bound.ensures divide.ensures divide.auto.x divide.auto.y
    divide.auto.z in
    k.z_fits

pub slice_bounds-split-end-8 : goal.slice_bounds-split-end-8
slice_bounds-split-end-8 t c =
    let divide = c.divide in
    let if1 = c.if-n-le8 in
    let bound = c.bound-axis in
    let k = middle c.requires if1.false bound.ensures divide.ensures divide.auto.x divide.auto.y
    divide.auto.z in
    sym (length-take-le (length c.args.order.now / 2) divide.new.z k.z_fits)

pub overflow_add-at : goal.overflow_add-at
overflow_add-at t c =
    next_fits c.args.at (length c.args.boxes.now) (bound_room c.requires).3 (omega (arith, c.well_formed.1.1.1.1.1.1.0))

pub split-next-requires : goal.split-next-requires
split-next-requires t c =
    let divide = c.divide in
    let if1 = c.if-n-le8 in
    let bound = c.bound-axis in
    let k = middle c.requires if1.false bound.ensures divide.ensures divide.auto.x divide.auto.y
    divide.auto.z in
    (omega (arith, c.decreases, first_size k, k.many), first_ready k divide.auto.work bound.auto.boxes)

pub offset_bounds-order-half : goal.offset_bounds-order-half
offset_bounds-order-half t c =
    let if1 = c.if-n-le8 in
    half_bytes (length c.args.order.now) if1.false (omega (arith, c.well_formed.1.0))

pub slice_bounds-split-count : goal.slice_bounds-split-count
slice_bounds-split-count t c =
    let split = c.split-next in
    let divide = c.divide in
    let if1 = c.if-n-le8 in
    let bound = c.bound-axis in
    let k = middle c.requires if1.false bound.ensures divide.ensures divide.auto.x divide.auto.y
    divide.auto.z in
    let s = split in
    behind_room divide.new.order s.new.order (length c.args.order.now / 2) k.order_fits s.auto.order

pub offset_bounds-x-half : goal.offset_bounds-x-half
offset_bounds-x-half t c =
    let if1 = c.if-n-le8 in
    half_bytes (length c.args.order.now) if1.false (omega (arith, c.well_formed.1.0))

pub slice_bounds-split-count-2 : goal.slice_bounds-split-count-2
slice_bounds-split-count-2 t c =
    let split = c.split-next in
    let divide = c.divide in
    let if1 = c.if-n-le8 in
    let bound = c.bound-axis in
    let k = middle c.requires if1.false bound.ensures divide.ensures divide.auto.x divide.auto.y
    divide.auto.z in
    let s = split in
    behind_room divide.new.x s.new.x (length c.args.order.now / 2) k.x_fits s.auto.x

pub slice_bounds-split-start-2 : goal.slice_bounds-split-start-2
slice_bounds-split-start-2 t c =
    let split = c.split-next in
    let divide = c.divide in
    let if1 = c.if-n-le8 in
    let bound = c.bound-axis in
    let k = middle c.requires if1.false bound.ensures divide.ensures divide.auto.x divide.auto.y
    divide.auto.z in
    let s = split in
    behind_room divide.new.x s.new.x (length c.args.order.now / 2) k.x_fits s.auto.x

pub offset_bounds-y-half : goal.offset_bounds-y-half
offset_bounds-y-half t c =
    let if1 = c.if-n-le8 in
    half_bytes (length c.args.order.now) if1.false (omega (arith, c.well_formed.1.0))

pub slice_bounds-split-count-3 : goal.slice_bounds-split-count-3
slice_bounds-split-count-3 t c =
    let split = c.split-next in
    let divide = c.divide in
    let if1 = c.if-n-le8 in
    let bound = c.bound-axis in
    let k = middle c.requires if1.false bound.ensures divide.ensures divide.auto.x divide.auto.y
    divide.auto.z in
    let s = split in
    behind_room divide.new.y s.new.y (length c.args.order.now / 2) k.y_fits s.auto.y

pub slice_bounds-split-start-3 : goal.slice_bounds-split-start-3
slice_bounds-split-start-3 t c =
    let split = c.split-next in
    let divide = c.divide in
    let if1 = c.if-n-le8 in
    let bound = c.bound-axis in
    let k = middle c.requires if1.false bound.ensures divide.ensures divide.auto.x divide.auto.y
    divide.auto.z in
    let s = split in
    behind_room divide.new.y s.new.y (length c.args.order.now / 2) k.y_fits s.auto.y

pub offset_bounds-z-half : goal.offset_bounds-z-half
offset_bounds-z-half t c =
    let if1 = c.if-n-le8 in
    half_bytes (length c.args.order.now) if1.false (omega (arith, c.well_formed.1.0))

pub slice_bounds-split-count-4 : goal.slice_bounds-split-count-4
slice_bounds-split-count-4 t c =
    let split = c.split-next in
    let divide = c.divide in
    let if1 = c.if-n-le8 in
    let bound = c.bound-axis in
    let k = middle c.requires if1.false bound.ensures divide.ensures divide.auto.x divide.auto.y
    divide.auto.z in
    let s = split in
    behind_room divide.new.z s.new.z (length c.args.order.now / 2) k.z_fits s.auto.z

pub slice_bounds-split-start-4 : goal.slice_bounds-split-start-4
slice_bounds-split-start-4 t c =
    let split = c.split-next in
    let divide = c.divide in
    let if1 = c.if-n-le8 in
    let bound = c.bound-axis in
    let k = middle c.requires if1.false bound.ensures divide.ensures divide.auto.x divide.auto.y
    divide.auto.z in
    let s = split in
    behind_room divide.new.z s.new.z (length c.args.order.now / 2) k.z_fits s.auto.z

pub split-requires : goal.split-requires
split-requires t c =
    let split = c.split-next in
    let divide = c.divide in
    let if1 = c.if-n-le8 in
    let bound = c.bound-axis in
    let k = middle c.requires if1.false bound.ensures divide.ensures divide.auto.x divide.auto.y
    divide.auto.z in
    let s = split in (
      omega (
        arith,
        c.decreases,
        second_size k s.new.order s.new.x s.new.y s.new.z s.auto.order s.auto.x s.auto.y
            s.auto.z,
        k.many,
      ),
      second_ready k s.new.order s.new.x s.new.y s.new.z s.auto.order s.auto.x s.auto.y
          s.auto.z (s.auto.work ∙ divide.auto.work) (s.auto.boxes ∙ bound.auto.boxes) s.ensures.ends,
    )

pub shape_of-order : goal.shape_of-order
shape_of-order t c =
    let split2 = c.split in
    let split = c.split-next in
    let divide = c.divide in
    let if1 = c.if-n-le8 in
    let bound = c.bound-axis in
    let k = middle c.requires if1.false bound.ensures divide.ensures divide.auto.x divide.auto.y
    divide.auto.z in
    let s = split in
    let r = split2 in
    size_2 divide.new.order s.new.order (length c.args.order.now / 2) k.order_fits s.auto.order r.new.order
    r.auto.order ∙ divide.auto.order

pub shape_of-x : goal.shape_of-x
shape_of-x t c =
    let split2 = c.split in
    let split = c.split-next in
    let divide = c.divide in
    let if1 = c.if-n-le8 in
    let bound = c.bound-axis in
    let k = middle c.requires if1.false bound.ensures divide.ensures divide.auto.x divide.auto.y
    divide.auto.z in
    let s = split in
    let r = split2 in
    size_2 divide.new.x s.new.x (length c.args.order.now / 2) k.x_fits s.auto.x r.new.x
    r.auto.x ∙ divide.auto.x

pub shape_of-y : goal.shape_of-y
shape_of-y t c =
    let split2 = c.split in
    let split = c.split-next in
    let divide = c.divide in
    let if1 = c.if-n-le8 in
    let bound = c.bound-axis in
    let k = middle c.requires if1.false bound.ensures divide.ensures divide.auto.x divide.auto.y
    divide.auto.z in
    let s = split in
    let r = split2 in
    size_2 divide.new.y s.new.y (length c.args.order.now / 2) k.y_fits s.auto.y r.new.y
    r.auto.y ∙ divide.auto.y

pub shape_of-z : goal.shape_of-z
shape_of-z t c =
    let split2 = c.split in
    let split = c.split-next in
    let divide = c.divide in
    let if1 = c.if-n-le8 in
    let bound = c.bound-axis in
    let k = middle c.requires if1.false bound.ensures divide.ensures divide.auto.x divide.auto.y
    divide.auto.z in
    let s = split in
    let r = split2 in
    size_2 divide.new.z s.new.z (length c.args.order.now / 2) k.z_fits s.auto.z r.new.z
    r.auto.z ∙ divide.auto.z

pub shape_of-work : goal.shape_of-work
shape_of-work t c =
    let split2 = c.split in
    let split = c.split-next in
    let divide = c.divide in
    split2.auto.work ∙ split.auto.work ∙ divide.auto.work

pub shape_of-boxes : goal.shape_of-boxes
shape_of-boxes t c =
    let split2 = c.split in
    let split = c.split-next in
    let bound = c.bound-axis in
    split2.auto.boxes ∙ split.auto.boxes ∙ bound.auto.boxes

pub returns : goal.returns
returns t c =
    let split2 = c.split in
    let split = c.split-next in
    let divide = c.divide in
    let if1 = c.if-n-le8 in
    let bound = c.bound-axis in
    let k = middle c.requires if1.false bound.ensures divide.ensures divide.auto.x divide.auto.y
    divide.auto.z in
    let s = split in
    let r = split2 in
    part_end k s.new.order s.new.x s.new.y s.new.z s.auto.order s.auto.x s.auto.y s.auto.z r.new.order
    s.new.boxes r.new.boxes s.result r.result s.ensures r.ensures
