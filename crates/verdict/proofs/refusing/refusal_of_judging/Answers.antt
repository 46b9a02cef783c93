-- `verdict::refusing::refusal_of_judging` meets its contract. Assumes nothing.
use Rattle.std.proofs.lemmas.Result.{err_from_is_err_and}
use Rattle.verdict.proofs.Checks.{judge_first, judge_numbers}
use Rattle.verdict.proofs.refusing.refusal_of_judging.Goals as goal

pub returns-in_err-refusal_of_input : goal.returns-in_err-refusal_of_input
returns-in_err-refusal_of_input c =
    let a = c.args in
    let r = err_from_is_err_and c.from_residual.result c.from_residual.ensures.1 in
    rw (r.1, r.2) (judge_first a.points.now a.normals.now a.settings a.i a.j a.k _ c.in_err-refusal_of_input.ensures)

pub returns : goal.returns
returns c =
    let a = c.args in
    rw (judge_numbers a.points.now a.normals.now a.settings a.i a.j a.k c.in_ok-refusal_of_input.ensures) c.refusal_of_numbers.ensures
