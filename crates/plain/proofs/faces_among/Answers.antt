-- `plain::faces_among` meets its contract. The loop's invariant: what is left of the faces leads to all of them.
-- Assumes nothing.
use Rattle.plain.proofs.Plain.{at_step_lem, at_end}
use Rattle.plain.proofs.Laid.{leads_step, leads_end}
use Rattle.plain.proofs.faces_among.Goals as goal

pub loop-at-preserved : goal.loop-at-preserved
loop-at-preserved c =
    let l = c.loop-at in
    let a = c.args in (
      c.faces_over-laid.ensures.most,
      leads_step l.invariant.1
          (at_step_lem a.points.now a.radius a.i a.w.now a.listed c.requires.1.lists.words_enough l.at c.loop-at-test.true)
          c.faces_over-laid.ensures,
    )

pub returns : goal.returns
returns c =
    let l = c.loop-at in
    let a = c.args in
    leads_end l.invariant.1 (at_end a.points.now a.radius a.i a.w.now a.listed c.requires.1.lists.words_enough l.at c.loop-at-test.false)
    l.invariant.0
