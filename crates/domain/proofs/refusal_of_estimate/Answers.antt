-- `domain::refusal_of_estimate` meets its contract. Assumes nothing.
use mathlib.Core.Path.{refl}
use mathlib.Core.List.{◌∷◌}
use Prim.Native.Nat.{◌/◌}
use lib.ListN.{length}
use Rattle.std.proofs.lemmas.Result.{err_from_is_err_and}
use Rattle.answers.proofs.Outcome.{outcome_ok}
use Rattle.ranges.specs.Range.{percentile_inside}
use Rattle.ranges.proofs.Tests.{passed, failed}
use Rattle.domain.specs.Refusals.{check, first_refusal, points_checks, work_checks, estimate_refusal}
use Rattle.domain.proofs.Refusals.{check_passed, check_failed, numbered, row_refused, row_passed, size_accepted}
use Rattle.domain.proofs.refusal_of_estimate.Goals as goal

pub returns-in_err-refusal_of_points : goal.returns-in_err-refusal_of_points
unfolding estimate_refusal numbered
returns-in_err-refusal_of_points c =
    let a = c.args in
    let r = err_from_is_err_and c.from_residual.result c.from_residual.ensures.1 in
    rw (r.1, r.2)
    (row_refused (points_checks a.points.now)
    (check (percentile_inside a.percentile) 6 0 ∷ work_checks (length a.points.now / 3) a.words a.floats) refl _
    c.in_err-refusal_of_points.ensures)

pub returns-then-not-percentile_ok : goal.returns-then-not-percentile_ok
unfolding estimate_refusal numbered
returns-then-not-percentile_ok c =
    let a = c.args in
    let later = work_checks (length a.points.now / 3) a.words a.floats in
    rw (
      c.plainly.ensures,
      row_passed (points_checks a.points.now) (check (percentile_inside a.percentile) 6 0 ∷ later) refl
          c.in_ok-refusal_of_points.ensures,
      check_failed (check (percentile_inside a.percentile) 6 0) later (failed c.percentile_ok.ensures c.if-not-percentile_ok.true),
    )

pub refusal_of_work-requires : goal.refusal_of_work-requires
refusal_of_work-requires c =
    (size_accepted _ _ _ (outcome_ok _ (first_refusal (points_checks c.args.points.now)) c.in_ok-refusal_of_points.ensures)).0.few

pub returns : goal.returns
unfolding estimate_refusal numbered
returns c =
    let a = c.args in
    let later = work_checks (length a.points.now / 3) a.words a.floats in
    rw (
      row_passed (points_checks a.points.now) (check (percentile_inside a.percentile) 6 0 ∷ later) refl
          c.in_ok-refusal_of_points.ensures,
      check_passed (check (percentile_inside a.percentile) 6 0) later (passed c.percentile_ok.ensures c.if-not-percentile_ok.false),
    )
    c.refusal_of_work.ensures
