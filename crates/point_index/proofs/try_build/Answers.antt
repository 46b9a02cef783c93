use Rattle.std.proofs.lemmas.Result.{err_from_is_err_and}
use Rattle.answers.proofs.Outcome.{outcome_ok}
use Rattle.point_index.proofs.Outcome.{told, in_domain, builds_refused, builds_passed}
use Rattle.numbers.specs.Rounded.{f32}
use lib.ListN.{length, replicate}
use Prim.Native.Nat.{ℕ}
use mathlib.Core.Path.{◌≡◌, ap, ◌∙◌}
use Rattle.point_index.proofs.try_build.Goals as goal

pub returns-in_err-refusal_of_index : goal.returns-in_err-refusal_of_index
returns-in_err-refusal_of_index c =
    let a = c.args in
    let r = err_from_is_err_and c.from_residual.result c.from_residual.ensures.1 in
    rw (r.1, r.2) (builds_refused a.points.now a.index.now a.words.now a.floats.now c.in_err-refusal_of_index.ensures)

pub build-requires : goal.build-requires
build-requires c =
    let a = c.args in
    in_domain a.points.now a.index.now a.words.now a.floats.now
    (outcome_ok _ (told a.points.now a.index.now a.words.now a.floats.now) c.in_ok-refusal_of_index.ensures)

pub returns : goal.returns
returns c =
    let a = c.args in
    let build = c.build in
    let e : length build.new.floats ≡ length a.floats.now = build.auto.floats in
    builds_passed a.points.now a.index.now a.words.now a.floats.now
    (outcome_ok _ (told a.points.now a.index.now a.words.now a.floats.now) c.in_ok-refusal_of_index.ensures)
    build.new.index c.clear.new.w c.clear-2.new.w build.ensures c.clear.ensures
    (c.clear-2.ensures ∙ ap (λ (n : ℕ). replicate n (f32 0)) e)
