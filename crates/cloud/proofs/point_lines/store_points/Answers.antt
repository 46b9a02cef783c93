-- `cloud::point_lines::store_points` meets its contract: it is what one reader leaves. Assumes nothing.
use Rattle.cloud.proofs.Stored.{carried_all}
use Rattle.cloud.proofs.point_lines.store_points.Goals as goal

pub returns : goal.returns
returns c =
    let start = c in
    carried_all start.args.s.now start.args.from start.args.count start.args.points.now start.args.normals.now start.requires _ _ _
    c.store_lines.ensures
