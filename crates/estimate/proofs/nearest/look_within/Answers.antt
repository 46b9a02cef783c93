-- The points that are not above the limit decide. Assumes nothing.
use mathlib.Core.Path.{sym, subst}
use native.Mathlib.Omega.{arith}
use Rattle.vector.specs.declared.Point3f.{Point3f}
use Rattle.vector.specs.Inner.Numbers.{Finite}
use Rattle.estimate.proofs.Looking.{looked}
use Rattle.estimate.proofs.nearest.look_within.Goals as goal

pub gather_within-found-requires : goal.gather_within-found-requires
gather_within-found-requires c = (
  c.requires.1.linked,
  subst (λ (p : Point3f). Finite p) (sym c.point_at-place.ensures)
      (c.requires.1.linked.ready.numbers c.args.i c.requires.0),
)

pub least_square-requires : goal.least_square-requires
least_square-requires c =
    let g = c.gather_within-found in
    let r = c.requires.1.linked.ready in
    (c.requires.0, r.few, g.ensures.most, r.points_long, omega (arith, r.work_long, g.auto.w), g.ensures.surrounds.below)

pub returns : goal.returns
returns c =
    let gather-within = c.gather_within-found in
    let point_at_lem = c.point_at-place in
    let p = point_at_lem in
    let g = gather-within in
    looked c.args.hash c.args.points.now c.args.n c.args.i c.args.limit c.args.w.now g.new.w p.result g.result
    c.least_square.result c.requires.0 c.requires.1 g.auto.w p.ensures g.ensures c.least_square.ensures
