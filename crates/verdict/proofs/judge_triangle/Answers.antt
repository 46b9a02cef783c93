-- `verdict::judge_triangle` meets its contract. Assumes nothing.
use Rattle.std.proofs.lemmas.Result.{err_from_is_err_and}
use Rattle.verdict.proofs.Checks.{judged_refused, judged_told, judged_inside}
use Rattle.verdict.specs.Judged.{verdict_at}
use Rattle.verdict.proofs.judge_triangle.Goals as goal

pub returns-in_err-refusal_of_judging : goal.returns-in_err-refusal_of_judging
returns-in_err-refusal_of_judging c =
    let a = c.args in
    let r = err_from_is_err_and c.from_residual.result c.from_residual.ensures.1 in
    rw (r.1, r.2) (judged_refused a.points.now a.normals.now a.settings a.i a.j a.k _ c.in_err-refusal_of_judging.ensures)

pub point_at-first-requires : goal.point_at-first-requires
point_at-first-requires c =
    let a = c.args in
    (judged_inside a.points.now a.normals.now a.settings a.i a.j a.k c.in_ok-refusal_of_judging.ensures).0

pub point_at-second-requires : goal.point_at-second-requires
point_at-second-requires c =
    let a = c.args in
    (judged_inside a.points.now a.normals.now a.settings a.i a.j a.k c.in_ok-refusal_of_judging.ensures).1

pub point_at-third-requires : goal.point_at-third-requires
point_at-third-requires c =
    let a = c.args in
    (judged_inside a.points.now a.normals.now a.settings a.i a.j a.k c.in_ok-refusal_of_judging.ensures).2

pub returns : goal.returns
unfolding verdict_at
returns c =
    let a = c.args in
    judged_told a.points.now a.normals.now a.settings a.i a.j a.k c.in_ok-refusal_of_judging.ensures _
    (rw (
      c.verdict_of.ensures,
      c.compute_triangle_quality.ensures,
      c.point_at-first.ensures,
      c.point_at-second.ensures,
      c.point_at-third.ensures,
    ))
