use Rattle.std.proofs.lemmas.Result.{err_from_is_err_and}
use Rattle.answers.proofs.Outcome.{outcome_ok}
use Rattle.point_index.proofs.Outcome.{told, in_domain, words_fit, tells_refused, tells_passed}
use Rattle.numbers.specs.Rounded.{f32}
use lib.ListN.{length, replicate}
use Prim.Native.Nat.{ℕ}
use mathlib.Core.Path.{◌≡◌, ap, ◌∙◌}
use Rattle.point_index.proofs.try_belongs.Goals as goal

pub returns-in_err-refusal_of_index : goal.returns-in_err-refusal_of_index
returns-in_err-refusal_of_index c =
    let a = c.args in
    let r = err_from_is_err_and c.from_residual.result c.from_residual.ensures.1 in
    rw (r.1, r.2) (tells_refused a.points.now a.index.now a.words.now a.floats.now c.in_err-refusal_of_index.ensures)

pub matches-same-requires : goal.matches-same-requires
matches-same-requires c =
    let a = c.args in
    let h = outcome_ok _ (told a.points.now a.index.now a.words.now a.floats.now) c.in_ok-refusal_of_index.ensures in
    (in_domain a.points.now a.index.now a.words.now a.floats.now h, words_fit a.points.now a.index.now a.words.now a.floats.now h)

pub returns : goal.returns
returns c =
    let a = c.args in
    let same = c.matches-same in
    let e : length same.new.floats ≡ length a.floats.now = same.auto.floats in
    let w : length same.new.words ≡ length a.words.now = same.auto.words in
    tells_passed a.points.now a.index.now a.words.now a.floats.now
    (outcome_ok _ (told a.points.now a.index.now a.words.now a.floats.now) c.in_ok-refusal_of_index.ensures)
    same.result c.clear.new.w c.clear-2.new.w same.ensures
    (c.clear.ensures ∙ ap (λ (n : ℕ). replicate n 0) w)
    (c.clear-2.ensures ∙ ap (λ (n : ℕ). replicate n (f32 0)) e)
