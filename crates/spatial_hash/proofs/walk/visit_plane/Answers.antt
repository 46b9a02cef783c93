-- `spatial_hash::walk::visit_plane` meets its contract. Assumes nothing.
use native.Mathlib.Omega.{arith}
use Rattle.spatial_hash.proofs.Visiting.{plane_splits, visiting_start, visiting_room, visiting_step, visiting_end}
use Rattle.spatial_hash.specs.Inner.Buckets.{spanned}
use Rattle.spatial_hash.proofs.Sizes.{square_few, joined_below}
use Rattle.spatial_hash.proofs.walk.visit_plane.Goals as goal

pub loop-done-init : goal.loop-done-init
loop-done-init c = visiting_start c.requires.1 c.requires.4

pub overflow_mul-x : goal.overflow_mul-x
overflow_mul-x c = let m = c.args.hash.side in
    let l = c.loop-done in
    let j = joined_below m m c.args.x l.y c.requires.0 l.invariant.below in
    let q = square_few m c.requires.4.linked.sound.few in
    omega arith

pub overflow_add-x : goal.overflow_add-x
overflow_add-x c = let m = c.args.hash.side in
    let l = c.loop-done in
    let j = joined_below m m c.args.x l.y c.requires.0 l.invariant.below in
    let q = square_few m c.requires.4.linked.sound.few in
    omega arith

pub visit_row-total-requires : goal.visit_row-total-requires
visit_row-total-requires c = let m = c.args.hash.side in
    let l = c.loop-done in
    let j = joined_below m m c.args.x l.y c.requires.0 l.invariant.below in
    let q = square_few m c.requires.4.linked.sound.few in (
      j,
      c.requires.2,
      c.requires.3,
      visiting_room
          (plane_splits c.args.hash c.args.points.now c.args.n c.args.x (spanned c.args.hash.side c.args.zs))
          c.loop-done-test.true l.invariant,
    )

pub loop-done-preserved : goal.loop-done-preserved
loop-done-preserved c =
    visiting_step (plane_splits c.args.hash c.args.points.now c.args.n c.args.x (spanned c.args.hash.side c.args.zs))
    c.loop-done-test.true c.loop-done.invariant c.visit_row-total.ensures c.next-y.ensures

pub returns : goal.returns
returns c = visiting_end (plane_splits c.args.hash c.args.points.now c.args.n c.args.x (spanned c.args.hash.side c.args.zs))
    c.loop-done-test.false c.loop-done.invariant
