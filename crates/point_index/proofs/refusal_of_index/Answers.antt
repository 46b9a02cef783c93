-- `point_index::refusal_of_index` meets its contract. Assumes nothing.
use Rattle.std.proofs.lemmas.Result.{err_from_is_err_and}
use Rattle.answers.proofs.Outcome.{outcome_ok}
use Rattle.domain.specs.Refusals.{first_refusal, points_checks}
use Rattle.domain.proofs.Refusals.{size_accepted}
use Rattle.point_index.proofs.Outcome.{refused_points, refused_work, refused_index, refused_none}
use Rattle.point_index.proofs.refusal_of_index.Goals as goal

pub returns-in_err-refusal_of_points : goal.returns-in_err-refusal_of_points
returns-in_err-refusal_of_points c =
    let a = c.args in
    let r = err_from_is_err_and c.from_residual.result c.from_residual.ensures.1 in
    rw (r.1, r.2) (refused_points a.points.now a.index a.words a.floats _ c.in_err-refusal_of_points.ensures)

pub refusal_of_work-requires : goal.refusal_of_work-requires
refusal_of_work-requires c =
    (size_accepted _ _ _ (outcome_ok _ (first_refusal (points_checks c.args.points.now)) c.in_ok-refusal_of_points.ensures)).0.few

pub returns-in_err-refusal_of_work : goal.returns-in_err-refusal_of_work
returns-in_err-refusal_of_work c =
    let a = c.args in
    let r = err_from_is_err_and c.from_residual-in_err-refusal_of_work.result c.from_residual-in_err-refusal_of_work.ensures.1 in
    rw (r.1, r.2)
    (refused_work a.points.now a.index a.words a.floats c.in_ok-refusal_of_points.ensures _ c.in_err-refusal_of_work.ensures)

pub returns-then-index-n : goal.returns-then-index-n
returns-then-index-n c =
    let a = c.args in
    rw (refused_index a.points.now a.index a.words a.floats c.in_ok-refusal_of_points.ensures
    c.in_ok-refusal_of_work.ensures c.if-index-n.true)

pub returns : goal.returns
returns c =
    let a = c.args in
    rw (refused_none a.points.now a.index a.words a.floats c.in_ok-refusal_of_points.ensures
    c.in_ok-refusal_of_work.ensures c.if-index-n.false)
