-- `radii::nearest::look_at` meets its contract. Assumes nothing.
use mathlib.Core.Path.{refl, ◌∙◌}
use native.Mathlib.Omega.{arith}
use lib.ListN.{take, drop}
use Rattle.neighbor_squares.specs.Inner.Squares.{is_neighbor_cell}
use Rattle.neighbor_squares.proofs.Looking.{with_above, with_none, with_one}
use Rattle.neighbor_squares.proofs.look_at.Goals as goal

pub returns-then-not-s-limit : goal.returns-then-not-s-limit
returns-then-not-s-limit c =
    let q = c.distance_squared-s in (
      with_above (is_neighbor_cell c.args.around c.args.w.now c.args.n) c.args.points.now c.args.i c.args.j c.args.limit
          (take c.args.kept (drop c.args.n c.args.f.now)) c.point_at-p.result c.point_at-q.result
          q.result c.point_at-p.ensures c.point_at-q.ensures q.ensures c.if-not-s-limit.true,
      c.requires.6,
      refl,
    )

pub returns-then-is_other : goal.returns-then-is_other
returns-then-is_other c =
    let if2 = c.if-is_other in
    let is-other = c.is_other in
    let e = c.insert_least_rising.ensures in
    let o = is-other in
    let q = c.distance_squared-s in (
      e.1.inside
          ∙ with_one (is_neighbor_cell c.args.around c.args.w.now c.args.n) c.args.points.now c.args.i c.args.j c.args.limit
          (take c.args.kept (drop c.args.n c.args.f.now)) c.point_at-p.result c.point_at-q.result
          q.result c.point_at-p.ensures c.point_at-q.ensures q.ensures o.result o.ensures
          c.if-not-s-limit.false if2.true,
      omega (arith, e.0),
      e.1.below,
    )

pub returns : goal.returns
returns c =
    let o = c.is_other in
    let q = c.distance_squared-s in (
      with_none (is_neighbor_cell c.args.around c.args.w.now c.args.n) c.args.points.now c.args.i c.args.j c.args.limit
          (take c.args.kept (drop c.args.n c.args.f.now)) c.point_at-p.result c.point_at-q.result
          q.result c.point_at-p.ensures c.point_at-q.ensures q.ensures o.result o.ensures
          c.if-not-s-limit.false c.if-is_other.false,
      c.requires.6,
      refl,
    )
