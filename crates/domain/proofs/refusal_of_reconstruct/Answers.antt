-- `domain::refusal_of_reconstruct` meets its contract. Assumes nothing.
use mathlib.Core.Path.{refl}
use Prim.Native.Nat.{◌/◌}
use lib.ListN.{length}
use Rattle.std.proofs.lemmas.Result.{err_from_is_err_and}
use Rattle.answers.proofs.Outcome.{outcome_ok}
use Rattle.domain.specs.Refusals.{first_refusal, input_checks, work_checks, reconstruct_refusal}
use Rattle.domain.proofs.Refusals.{numbered, row_refused, row_passed, size_accepted}
use Rattle.domain.proofs.refusal_of_reconstruct.Goals as goal

pub returns-in_err-refusal_of_input : goal.returns-in_err-refusal_of_input
unfolding reconstruct_refusal numbered
returns-in_err-refusal_of_input c =
    let a = c.args in
    let r = err_from_is_err_and c.from_residual.result c.from_residual.ensures.1 in
    rw (r.1, r.2)
    (row_refused (input_checks a.points.now a.normals.now a.settings) (work_checks (length a.points.now / 3) a.words a.floats) refl _
    c.in_err-refusal_of_input.ensures)

pub refusal_of_work-requires : goal.refusal_of_work-requires
refusal_of_work-requires c =
    let a = c.args in
    (size_accepted _ _ _
    (outcome_ok _ (first_refusal (input_checks a.points.now a.normals.now a.settings)) c.in_ok-refusal_of_input.ensures)).0.few

pub returns : goal.returns
unfolding reconstruct_refusal numbered
returns c =
    let a = c.args in
    rw (row_passed (input_checks a.points.now a.normals.now a.settings) (work_checks (length a.points.now / 3) a.words a.floats) refl
    c.in_ok-refusal_of_input.ensures)
    c.refusal_of_work.ensures
