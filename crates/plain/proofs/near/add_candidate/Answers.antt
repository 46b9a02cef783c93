-- `plain::near::add_candidate` meets its contract. Assumes nothing.
use Rattle.plain.proofs.Judged.{holds}
use Rattle.plain.proofs.Listing.{far_none, apart_is, near_is, adds_none, adds_one}
use Rattle.plain.proofs.near.add_candidate.Goals as goal

pub returns-then-s-limits : goal.returns-then-s-limits
returns-then-s-limits c =
    let d = c in
    let s = d in
    let a = s.args in
    adds_none a.points.now a.radius a.i a.j a.w.now a.lengths.now a.count
    (far_none a.points.now a.radius a.i a.j s.requires.1 d.point_at-p.ensures d.point_at-q.ensures
    d.distance_squared-s.ensures (holds c.if-s-limits.true))

pub returns-then-d-limits : goal.returns-then-d-limits
returns-then-d-limits c =
    let q = c in
    let d = q in
    let s = d in
    let a = s.args in
    adds_one a.points.now a.radius a.i a.j a.w.now a.lengths.now a.count q.sqrt-d.result
    (near_is a.points.now a.radius a.i a.j s.requires.1 d.point_at-p.ensures d.point_at-q.ensures
    d.distance_squared-s.ensures q.sqrt-d.ensures c.if-d-limits.true)
    (apart_is a.points.now a.radius a.i a.j s.requires.1 d.point_at-p.ensures d.point_at-q.ensures
    d.distance_squared-s.ensures q.sqrt-d.ensures)

pub returns : goal.returns
returns c =
    let q = c in
    let d = q in
    let s = d in
    let a = s.args in
    adds_none a.points.now a.radius a.i a.j a.w.now a.lengths.now a.count
    (near_is a.points.now a.radius a.i a.j s.requires.1 d.point_at-p.ensures d.point_at-q.ensures
    d.distance_squared-s.ensures q.sqrt-d.ensures c.if-d-limits.false)
