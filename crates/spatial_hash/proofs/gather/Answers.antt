-- `spatial_hash::gather` meets its contract. Assumes nothing.
use Rattle.spatial_hash.proofs.Gathering.{box_room, box_gathered}
use Rattle.spatial_hash.proofs.gather.Goals as goal

pub visit_planes-requires : goal.visit_planes-requires
visit_planes-requires c =
    let x = c.span-xs.ensures in
    let y = c.span-ys.ensures in
    let z = c.span-zs.ensures in
    (x.starts, y.starts, z.starts, z.few, box_room _ _ _ _ c.args.bounds _ _ _ c.requires x y z)

pub returns : goal.returns
returns c =
    let span3 = c.span-zs in
    let span2 = c.span-ys in
    let span = c.span-xs in
    box_gathered _ _ _ _ c.args.bounds _ _ _ c.requires span.ensures span2.ensures span3.ensures _ _ c.visit_planes.ensures
