-- `search` meets its contract, by induction on how many points the part has. A box beyond the limit is left out
-- (`left_out`), a leaf is scanned, and otherwise the nearer half is searched first: since a scan finds the same in any
-- order, the two halves' scans are the whole one's, also where the second half is left out. Assumes nothing.
use Prim.Native.Nat.{◌/◌, ◌<◌}
use mathlib.Core.Path.{sym}
use native.Mathlib.Omega.{arith}
use lib.ListN.{length}
use lib.Seq.{length-take-le}
use Rattle.box_search.proofs.Halves.{second_size, here, left_out, first_held, second_held, first_ready, second_ready, first_size, second_length, in_turn}
use Rattle.box_search.proofs.Halves.{turned, finite_here}
use Rattle.box_search.proofs.+search.Goals as goal

pub returns-then-best-far : goal.returns-then-best-far
returns-then-best-far t c = left_out c.requires c.if-best-far.true

pub scan_leaf-requires : goal.scan_leaf-requires
scan_leaf-requires t c = let r = c.requires in record {
  best_limited = (r.best_limit, r.best_length);
  numbers_of_points = ((here r).known, finite_here r);
}

pub returns-then-n-le8 : goal.returns-then-n-le8
returns-then-n-le8 t c = c.scan_leaf.ensures

pub overflow_add-first : goal.overflow_add-first
overflow_add-first t c = let r = c.requires in
    omega (arith, (here r).six.long)

pub reach-a-requires : goal.reach-a-requires
reach-a-requires t c =
    let o = c.args.order.now in
    let r = c.requires in
    let n : 8 < length o = c.if-n-le8.false in (first_held r n).six

pub boxes_below-requires : goal.boxes_below-requires
boxes_below-requires t c = let r = c.requires in
    (omega (arith, r.narrow), omega (arith, r.few))

pub overflow_mul-next : goal.overflow_mul-next
overflow_mul-next t c =
    let o = c.args.order.now in
    let r = c.requires in
    let n : 8 < length o = c.if-n-le8.false in omega (arith, (second_held r n c.boxes_below.ensures).six.long)

pub overflow_add-next : goal.overflow_add-next
overflow_add-next t c =
    let o = c.args.order.now in
    let r = c.requires in
    let n : 8 < length o = c.if-n-le8.false in omega (arith, (second_held r n c.boxes_below.ensures).six.long)

pub reach-b-requires : goal.reach-b-requires
reach-b-requires t c =
    let o = c.args.order.now in
    let r = c.requires in
    let n : 8 < length o = c.if-n-le8.false in (second_held r n c.boxes_below.ensures).six

pub slice_bounds-search-count : goal.slice_bounds-search-count
slice_bounds-search-count t c = omega arith

pub search-near-requires : goal.search-near-requires
search-near-requires t c =
    let boxes-below = c.boxes_below in
    let if2 = c.if-n-le8 in
    let o = c.args.order.now in
    let r = c.requires in
    let n : 8 < length o = if2.false in (
      omega (arith, c.decreases, second_size o (length o / 2)),
      second_ready r r.best_length r.best_limit n boxes-below.ensures
          c.reach-b.ensures,
    )

pub returns-then-best-a : goal.returns-then-best-a
returns-then-best-a t c =
    let reach = c.reach-a in
    let if2 = c.if-n-le8 in
    let o = c.args.order.now in
    let r = c.requires in
    let n : 8 < length o = if2.false in turned r c.search-near.ensures
    (left_out (first_ready r (second_length r c.search-near.ensures) c.search-near.ensures.limited n reach.ensures)
    c.if-best-a.true)

pub slice_bounds-search-end-then-b-a : goal.slice_bounds-search-end-then-b-a
slice_bounds-search-end-then-b-a t c = let o = c.args.order.now in
    sym (length-take-le (length o / 2) o (omega arith))

pub search-requires : goal.search-requires
search-requires t c =
    let after-search = c.search-near in
    let reach = c.reach-a in
    let if2 = c.if-n-le8 in
    let o = c.args.order.now in
    let r = c.requires in
    let n : 8 < length o = if2.false in (
      omega (arith, c.decreases, length-take-le (length o / 2) o (omega arith)),
      first_ready r (second_length r after-search.ensures)
          after-search.ensures.limited n reach.ensures,
    )

pub returns-then-b-a : goal.returns-then-b-a
returns-then-b-a t c =
    let after-search = c.search-near in
    turned c.requires after-search.ensures c.search.ensures

pub slice_bounds-search-end-2 : goal.slice_bounds-search-end-2
slice_bounds-search-end-2 t c = let o = c.args.order.now in
    sym (length-take-le (length o / 2) o (omega arith))

pub search-near-requires-2 : goal.search-near-requires-2
search-near-requires-2 t c =
    let reach = c.reach-a in
    let if2 = c.if-n-le8 in
    let o = c.args.order.now in
    let r = c.requires in
    let n : 8 < length o = if2.false in
    (omega (arith, c.decreases, length-take-le (length o / 2) o (omega arith)), first_ready r r.best_length r.best_limit n reach.ensures)

pub returns-then-best-b : goal.returns-then-best-b
returns-then-best-b t c =
    let reach2 = c.reach-b in
    let boxes-below = c.boxes_below in
    let if2 = c.if-n-le8 in
    let o = c.args.order.now in
    let r = c.requires in
    let n : 8 < length o = if2.false in in_turn r c.search-near-2.ensures
    (left_out (second_ready r (first_size r c.search-near-2.ensures) c.search-near-2.ensures.limited n boxes-below.ensures
    reach2.ensures) c.if-best-b.true)

pub slice_bounds-search-count-2 : goal.slice_bounds-search-count-2
slice_bounds-search-count-2 t c = omega arith

pub search-requires-2 : goal.search-requires-2
search-requires-2 t c =
    let search3 = c.search-near-2 in
    let reach2 = c.reach-b in
    let boxes-below = c.boxes_below in
    let if2 = c.if-n-le8 in
    let o = c.args.order.now in
    let r = c.requires in
    let n : 8 < length o = if2.false in (
      omega (arith, c.decreases, second_size o (length o / 2)),
      second_ready r (first_size r search3.ensures) search3.ensures.limited n
          boxes-below.ensures reach2.ensures,
    )

pub returns : goal.returns
returns t c =
    let search3 = c.search-near-2 in
    in_turn c.requires search3.ensures c.search-2.ensures
