-- `plain::simple_triangulate` meets its contract. The loop's invariant: what is left of the faces leads to all of them.
-- Assumes nothing.
use lib.ListN.{length}
use mathlib.Core.Path.{refl, ap}
use Prim.Native.Nat.{◌/◌}
use Rattle.plain.proofs.Plain.{up_start, of_more, of_none}
use Rattle.plain.specs.Plain.{plain_faces_from, plain_faces}
use Rattle.plain.specs.Reached.{plain_reached}
use Rattle.plain.proofs.Laid.{leads_start, leads_step, leads_end, lays_whole}
use Rattle.plain.proofs.Reached.{track_start, track_step, track_end}
use borrow.Author.Rules.{rules}
use Rattle.plain.proofs.simple_triangulate.Goals as goal

pub loop-i-init : goal.loop-i-init
loop-i-init c =
    let a = c.args in (
      search rules,
      leads_start _ _
          (ap (plain_faces_from a.points.now a.radius) (up_start (length a.points.now / 3))),
      track_start a.points.now a.radius,
    )

pub loop-i-preserved : goal.loop-i-preserved
loop-i-preserved c =
    let f = c.faces_at-step in
    let l = c.loop-i in
    let a = c.args in (
      f.ensures.0.most,
      leads_step l.invariant.1 (of_more a.points.now a.radius l.i _ c.loop-i-test.true) f.ensures.0,
      track_step a.points.now a.radius l.invariant.2 c.loop-i-test.true l.invariant.0 f.ensures.0 f.ensures.1 refl,
    )

pub returns : goal.returns
unfolding plain_faces plain_reached
returns c =
    let l = c.loop-i in
    let a = c.args in
    let e = lays_whole (leads_end l.invariant.1 (of_none a.points.now a.radius l.i _ c.loop-i-test.false) l.invariant.0) in
    (e.0, e.1, track_end a.points.now a.radius l.invariant.2 c.loop-i-test.false)
