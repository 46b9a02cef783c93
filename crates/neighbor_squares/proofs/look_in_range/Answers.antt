-- The points within bounds that hold every neighbour decide. Assumes nothing.
use mathlib.Core.Path.{sym, subst}
use native.Mathlib.Omega.{arith}
use Rattle.vector.specs.declared.Point3f.{Point3f}
use Rattle.vector.specs.Inner.Numbers.{Finite}
use Rattle.neighbor_squares.proofs.Deciding.{found_in_range}
use Rattle.neighbor_squares.proofs.look_in_range.Goals as goal

pub limit_of-limit-requires : goal.limit_of-limit-requires
limit_of-limit-requires c =
    subst (λ (p : Point3f). Finite p) (sym c.point_at-place.ensures) (c.requires.0.hashed.linked.ready.numbers c.args.i c.requires.0.inside)

pub least_squares-requires : goal.least_squares-requires
least_squares-requires c =
    let gather = c.gather-found in
    let g = gather in
    let r = c.requires.0.hashed.linked.ready in (
      c.requires.0.inside,
      r.few,
      g.ensures.most,
      r.points_long,
      omega (arith, r.work_long, g.auto.w),
      c.requires.0.room,
      g.ensures.gathers.below,
      r.numbers,
    )

pub returns : goal.returns
returns c =
    let gather = c.gather-found in
    let limit_of = c.limit_of-limit in
    let bounds_of = c.bounds_of-bounds in
    let point_at_lem = c.point_at-place in
    let p = point_at_lem in
    let g = gather in
    let q = c.least_squares in
    found_in_range c.args.around c.args.grid c.args.points.now c.args.n c.args.i bounds_of.result limit_of.result c.args.w.now
    g.new.w c.args.f.now q.new.f c.args.hash p.result g.result q.result
    c.requires.0 c.requires.1 c.requires.2 g.auto.w p.ensures bounds_of.ensures limit_of.ensures g.ensures q.ensures.0 q.ensures.1
    q.ensures.2
