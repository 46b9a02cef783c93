-- `plain::faces_over` meets its contract. The loop's invariant: what is left of the faces over a leads to all of them.
-- Assumes nothing.
use lib.ListN.{get_or}
use native.Mathlib.Omega.{arith}
use Rattle.plain.proofs.Plain.{over_step, over_end}
use Rattle.plain.proofs.Laid.{lays_full, leads_step, leads_end}
use Rattle.plain.proofs.faces_over.Goals as goal

pub returns-then-count-ge-MAX_TRIANGLES : goal.returns-then-count-ge-MAX_TRIANGLES
returns-then-count-ge-MAX_TRIANGLES c = lays_full _ _ (omega arith) _ (omega arith)

pub loop-k-preserved : goal.loop-k-preserved
loop-k-preserved c =
    let l = c.loop-k in
    let a = c.args in (
      c.try_face-laid.ensures.most,
      leads_step l.invariant.1
          (over_step a.points.now a.radius a.i a.w.now a.listed c.requires.1.lists.words_enough (get_or a.w.now a.at 0) l.k
          c.loop-k-test.true) c.try_face-laid.ensures,
    )

pub returns : goal.returns
returns c =
    let l = c.loop-k in
    let a = c.args in
    leads_end l.invariant.1
    (over_end a.points.now a.radius a.i a.w.now a.listed c.requires.1.lists.words_enough (get_or a.w.now a.at 0) l.k
    c.loop-k-test.false) l.invariant.0
