-- The points that are not above the limit decide. Assumes nothing.
use mathlib.Core.Path.{sym, subst}
use native.Mathlib.Omega.{arith}
use Rattle.vector.specs.declared.Point3f.{Point3f}
use Rattle.vector.specs.Inner.Numbers.{Finite}
use Rattle.neighbor_squares.proofs.Deciding.{looked}
use Rattle.neighbor_squares.proofs.look_within.Goals as goal

pub gather_within-found-requires : goal.gather_within-found-requires
gather_within-found-requires c = (
  c.requires.hashed.linked,
  subst (λ (p : Point3f). Finite p) (sym c.point_at-place.ensures)
      (c.requires.hashed.linked.ready.numbers c.args.i c.requires.inside),
)

pub least_squares-requires : goal.least_squares-requires
least_squares-requires c =
    let gather-within = c.gather_within-found in
    let g = gather-within in
    let r = c.requires.hashed.linked.ready in (
      c.requires.inside,
      r.few,
      g.ensures.most,
      r.points_long,
      omega (arith, r.work_long, g.auto.w),
      c.requires.room,
      g.ensures.surrounds.below,
      r.numbers,
    )

pub returns : goal.returns
returns c =
    let gather-within = c.gather_within-found in
    let point_at_lem = c.point_at-place in
    let p = point_at_lem in
    let g = gather-within in
    let q = c.least_squares in
    looked c.args.around c.args.points.now c.args.n c.args.i c.args.limit c.args.w.now g.new.w c.args.f.now
    q.new.f c.args.hash p.result g.result q.result
    c.requires q.auto.f p.ensures g.ensures q.ensures.0 q.ensures.1 q.ensures.2
