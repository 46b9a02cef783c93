-- `score_near` meets its contract: its tests are those of `score_near`, in their order. Assumes nothing.
use Rattle.numbers.specs.Rounded.{◌⊗◌}
use Rattle.numbers.specs.Root.{root}
use Rattle.quality.specs.Measures.{half}
use Rattle.scores.proofs.Over.{score_far, score_far_too, score_near_lem}
use Rattle.scores.proofs.score_near.Goals as goal

pub returns-then-not-to_p-radius : goal.returns-then-not-to_p-radius
returns-then-not-to_p-radius c =
    let a = c.args in
    let d = c.sqrt-to_p in
    score_far a.s a.radius a.top a.a (root a.b) (root a.c) (root a.cross ⊗ half)
    (rw (← d.ensures) (c.if-not-to_p-radius.true))

pub returns-then-not-to_q-radius : goal.returns-then-not-to_q-radius
returns-then-not-to_q-radius c =
    let a = c.args in
    let e = c.sqrt-to_q in
    score_far_too a.s a.radius a.top a.a (root a.b) (root a.c) (root a.cross ⊗ half)
    (rw (← e.ensures) (c.if-not-to_q-radius.true))

pub returns : goal.returns
returns c =
    let a = c.args in
    let d = c.sqrt-to_p in
    let e = c.sqrt-to_q in
    score_near_lem a.s a.radius a.top a.a (root a.b) (root a.c) (root a.cross ⊗ half)
    (rw (← d.ensures) (c.if-not-to_p-radius.false))
    (rw (← e.ensures) (c.if-not-to_q-radius.false))
    (rw (← d.ensures, ← e.ensures, ← c.sqrt.ensures) c.score_from.ensures)
