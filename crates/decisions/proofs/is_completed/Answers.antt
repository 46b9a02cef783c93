-- `is_completed` meets its contract: its tests are those of `completes`, in their order. Assumes nothing.
use Rattle.decisions.proofs.Completed.{completed_far, completed_far_too, completed_near}
use Rattle.decisions.proofs.is_completed.Goals as goal

pub returns-then-to_i-radius : goal.returns-then-to_i-radius
returns-then-to_i-radius c =
    let a = c.args in
    completed_far a.s a.points.now a.radius a.i a.j a.k c.apart_at-to_i.ensures c.if-to_i-radius.true

pub returns-then-to_j-radius : goal.returns-then-to_j-radius
returns-then-to_j-radius c =
    let a = c.args in
    completed_far_too a.s a.points.now a.radius a.i a.j a.k c.apart_at-to_i.ensures c.apart_at-to_j.ensures
    c.if-to_i-radius.false c.if-to_j-radius.true

pub returns : goal.returns
returns c =
    let a = c.args in
    completed_near a.s a.points.now a.radius a.i a.j a.k c.apart_at-to_i.ensures
    c.apart_at-to_j.ensures c.if-to_i-radius.false c.if-to_j-radius.false c.is_accepted_at.ensures
