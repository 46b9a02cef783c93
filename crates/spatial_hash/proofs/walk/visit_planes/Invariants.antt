-- `spatial_hash::walk::visit_planes` meets its contract. Assumes nothing.
use Rattle.spatial_hash.specs.Inner.Buckets.{spanned}
use Rattle.spatial_hash.proofs.Visiting.{Visiting, box_left}
use Rattle.spatial_hash.proofs.walk.visit_planes.Given as goal

abbrev pub invariant-loop-done : goal.invariant-loop-done
invariant-loop-done l =
    Visiting l.hash l.points l.n (box_left l.hash.side (spanned l.hash.side l.ys) (spanned l.hash.side l.zs)) l.initial.w 0 l.fn.xs.first l.fn.xs.count l.w l.total l.x l._done
