-- `spatial_hash::walk::visit_planes` meets its contract. Assumes nothing.
use Rattle.spatial_hash.specs.Inner.Buckets.{spanned}
use Rattle.spatial_hash.proofs.Visiting.{box_splits, visiting_start, visiting_room, visiting_step, visiting_end}
use Rattle.spatial_hash.proofs.walk.visit_planes.Goals as goal

pub loop-done-init : goal.loop-done-init
loop-done-init c = visiting_start c.requires.0 c.requires.4

pub visit_plane-total-requires : goal.visit_plane-total-requires
visit_plane-total-requires c = let l = c.loop-done in (
  l.invariant.below,
  c.requires.1,
  c.requires.2,
  c.requires.3,
  visiting_room
      (box_splits c.args.hash c.args.points.now c.args.n (spanned c.args.hash.side c.args.ys)
      (spanned c.args.hash.side c.args.zs))
      c.loop-done-test.true l.invariant,
)

pub loop-done-preserved : goal.loop-done-preserved
loop-done-preserved c =
    visiting_step (box_splits c.args.hash c.args.points.now c.args.n (spanned c.args.hash.side c.args.ys)
    (spanned c.args.hash.side c.args.zs)) c.loop-done-test.true c.loop-done.invariant c.visit_plane-total.ensures c.next-x.ensures

pub returns : goal.returns
returns c = visiting_end (box_splits c.args.hash c.args.points.now c.args.n (spanned c.args.hash.side c.args.ys)
    (spanned c.args.hash.side c.args.zs)) c.loop-done-test.false c.loop-done.invariant
