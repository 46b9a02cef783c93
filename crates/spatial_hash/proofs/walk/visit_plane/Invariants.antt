-- `spatial_hash::walk::visit_plane` meets its contract. Assumes nothing.
use Rattle.spatial_hash.proofs.Visiting.{Visiting, plane_left}
use Rattle.spatial_hash.specs.Inner.Buckets.{spanned}
use Rattle.spatial_hash.proofs.walk.visit_plane.Given as goal

abbrev pub invariant-loop-done : goal.invariant-loop-done
invariant-loop-done l =
    Visiting l.hash l.points l.n (plane_left l.hash.side l.x (spanned l.hash.side l.zs)) l.initial.w l.count l.fn.ys.first l.fn.ys.count l.w l.total l.y l._done
