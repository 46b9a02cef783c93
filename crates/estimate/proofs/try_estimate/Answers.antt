-- The checks decide; once they have passed, what they promise meets what the rest requires. Assumes nothing.
use Prim.Native.Nat.{ℕ}
use mathlib.Core.Path.{◌≡◌, ap, ◌∙◌}
use native.Mathlib.Omega.{arith}
use lib.ListN.{length, replicate}
use Rattle.std.proofs.lemmas.Result.{err_from_is_err_and}
use Rattle.answers.proofs.Outcome.{outcome_ok}
use Rattle.numbers.specs.Rounded.{f32}
use Rattle.estimate.proofs.Outcome.{told, outcome_refused, outcome_passed, in_domain, cloud_ready}
use Rattle.estimate.proofs.try_estimate.Goals as goal

pub returns-in_err-refusal_of_estimate : goal.returns-in_err-refusal_of_estimate
returns-in_err-refusal_of_estimate c =
    let s = c.args in
    let r = err_from_is_err_and c.from_residual.result c.from_residual.ensures.1 in
    rw (r.1, r.2) (outcome_refused s.points.now s.percentile s.work_u32.now s.work_f32.now c.in_err-refusal_of_estimate.ensures)

pub optimal_radius-radius-requires : goal.optimal_radius-radius-requires
optimal_radius-radius-requires c =
    let s = c.args in
    let a = in_domain s.points.now s.percentile s.work_u32.now s.work_f32.now
    (outcome_ok _ (told s.points.now s.percentile s.work_u32.now s.work_f32.now) c.in_ok-refusal_of_estimate.ensures) in
    (cloud_ready s.points.now s.work_u32.now (length s.work_f32.now) a.cloud a.room, omega (arith, a.room.floats_enough))

pub returns : goal.returns
returns c =
    let s = c.args in
    let o = c.optimal_radius-radius in
    let u = c.clear in
    let f = c.clear-2 in
    let zero = outcome_ok _ (told s.points.now s.percentile s.work_u32.now s.work_f32.now) c.in_ok-refusal_of_estimate.ensures in
    let same : length o.new.f ≡ length s.work_f32.now = omega arith in
    let same-words : length o.new.w ≡ length s.work_u32.now = omega arith in
    outcome_passed s.points.now s.percentile s.work_u32.now s.work_f32.now o.result u.new.w f.new.w zero o.ensures
    (u.ensures ∙ ap (λ (n : ℕ). replicate n 0) same-words)
    (f.ensures ∙ ap (λ (n : ℕ). replicate n (f32 0)) same)
