-- `pivot_over` meets its contract. Where the ball meets a point it leaves the hash and the face is laid, and the step
-- of the definition is the pivot's; where it meets none only the look is counted. Assumes nothing.
use native.Mathlib.Omega.{arith}
use Rattle.laying.proofs.Pivots.{edge_below, free_point, searched, pivot_room, few_pivots, pivot_laid, pivot_missed}
use Rattle.laying.proofs.pivot_over.Goals as goal

pub try_ball_pivot-found-requires : goal.try_ball_pivot-found-requires
try_ball_pivot-found-requires c =
    let s = c in
    let e = edge_below s.args.p.radius s.requires in
    (s.requires.searchable.held, s.requires.searchable.indexed, s.requires.searchable.hashed, e.0, e.1)

pub remove-requires : goal.remove-requires
remove-requires c =
    let f = c in
    let t = f in
    let s = t in (
      (searched s.args.p.radius s.requires t.try_ball_pivot-found.ensures.0 t.try_ball_pivot-found.ensures.1
          t.try_ball_pivot-found.auto.w).hashed.linked,
      (free_point s.args.p.radius s.requires t.try_ball_pivot-found.ensures.0
          t.try_ball_pivot-found.ensures.1 t.try_ball_pivot-found.auto.w c.in-Some.is).below,
    )

pub overflow_cast-k : goal.overflow_cast-k
overflow_cast-k c =
    let f = c in
    let t = f in
    let s = t in
    let h = free_point s.args.p.radius s.requires t.try_ball_pivot-found.ensures.0 t.try_ball_pivot-found.ensures.1 t.try_ball_pivot-found.auto.w
    c.in-Some.is in
    omega (arith, h.below, s.requires.searchable.held.few)

pub lay_pivot-requires : goal.lay_pivot-requires
lay_pivot-requires c =
    let r = c in
    let f = r in
    let t = f in
    let s = t in
    pivot_room s.args.p.radius s.requires t.try_ball_pivot-found.ensures.0 t.try_ball_pivot-found.ensures.1 t.try_ball_pivot-found.auto.w
    c.in-Some.is r.remove.ensures r.remove.auto.w

pub miss-requires : goal.miss-requires
miss-requires c =
    let t = c in
    let s = t in
    few_pivots s.args.p.radius s.requires

pub returns-in-Some : goal.returns-in-Some
returns-in-Some c =
    let p = c in
    let r = p in
    let f = r in
    let t = f in
    let s = t in
    pivot_laid s.args.p.radius s.requires t.try_ball_pivot-found.ensures.0 t.try_ball_pivot-found.ensures.1 t.try_ball_pivot-found.auto.w
    c.in-Some.is r.remove.ensures r.remove.auto.w p.lay_pivot.ensures.takes p.lay_pivot.ensures.only_in

pub returns-in-None : goal.returns-in-None
returns-in-None c =
    let t = c in
    let s = t in
    pivot_missed s.args.p.radius s.requires t.try_ball_pivot-found.ensures.0 t.try_ball_pivot-found.ensures.1 t.try_ball_pivot-found.auto.w
    c.in-None.is c.miss.ensures
