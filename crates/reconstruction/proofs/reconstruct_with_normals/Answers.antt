-- The main call meets the one claim about it: a cloud is turned away, or what is found over it comes back. Assumes
-- nothing.
use Prim.Native.Nat.{ℕ}
use mathlib.Core.Path.{refl, sym, ap, ◌∙◌}
use lib.ListN.{length, replicate}
use Rattle.answers.proofs.Outcome.{outcome_ok, outcome_err}
use Rattle.numbers.specs.Rounded.{f32}
use Rattle.domain.specs.declared.Refusal.{Refusal}
use Rattle.domain.specs.Refusals.{reconstruct_refusal}
use Rattle.ball_pivoting.proofs.Reasons.{reason_is}
use Rattle.ball_pivoting.proofs.Outcome.{ready_of, turned_away, taken}
use Rattle.reconstruction.proofs.reconstruct_with_normals.Goals as goal

pub returns-in-Err : goal.returns-in-Err
returns-in-Err c =
    let a = c.args in
    let r = reconstruct_refusal a.points.now a.normals.now a.settings (length a.words.now) (length a.floats.now) in
    let t = outcome_err r.answer r c.in-Err.ensures in
    turned_away _ _ _ _ _ _ _ t.0 _ c.refuse.ensures (λ z. t.1 (ap (λ (q : Refusal). q.answer) (sym t.0) ∙ z))

pub find-found-requires : goal.find-found-requires
find-found-requires c =
    let a = c.args in
    let r = reconstruct_refusal a.points.now a.normals.now a.settings (length a.words.now) (length a.floats.now) in
    ready_of a.settings a.points.now a.normals.now a.words.now a.floats.now (outcome_ok r.answer r c.in_default.ensures)

pub returns : goal.returns
returns c =
    let found = c.find-found in
    let a = c.args in
    let r = reconstruct_refusal a.points.now a.normals.now a.settings (length a.words.now) (length a.floats.now) in
    taken a.points.now a.normals.now a.settings a.faces.now a.words.now a.floats.now r refl _ _ _ _ (outcome_ok r.answer r c.in_default.ensures)
    (c.deliver.ensures _ _ _ _ _ (reason_is a.settings a.points.now) found.ensures)
    (c.clear.ensures ∙ ap (λ (k : ℕ). replicate k 0) found.auto.words)
    (c.clear-2.ensures ∙ ap (λ (k : ℕ). replicate k (f32 0)) found.auto.floats)
