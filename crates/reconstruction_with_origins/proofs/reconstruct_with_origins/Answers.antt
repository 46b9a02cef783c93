-- The call meets the one claim about it: a cloud is turned away, or what is found over it comes back. Assumes nothing.
use Prim.Native.Nat.{ℕ}
use mathlib.Core.Path.{refl, sym, ap, ◌∙◌}
use native.Mathlib.Omega.{arith}
use lib.ListN.{length, replicate}
use Rattle.answers.proofs.Outcome.{outcome_ok, outcome_err}
use Rattle.numbers.specs.Rounded.{f32}
use Rattle.domain.specs.declared.Refusal.{Refusal}
use Rattle.domain.specs.Refusals.{reconstruct_refusal}
use Rattle.ball_pivoting.proofs.Outcome.{ready_of}
use Rattle.reconstruction_with_origins.proofs.Finding.{held_of, zeros_again}
use Rattle.origins_outcome.proofs.Claim.{turned_away, taken}
use Rattle.reconstruction_with_origins.proofs.reconstruct_with_origins.Goals as goal

pub returns-in-Err : goal.returns-in-Err
returns-in-Err c =
    let a = c.args in
    let r = reconstruct_refusal a.points.now a.normals.now a.settings (length a.words.now) (length a.floats.now) in
    let t = outcome_err r.answer r c.in-Err.ensures in
    turned_away _ _ _ _ _ _ _ _ _ t.0 _ c.refuse.ensures (λ z. t.1 (ap (λ (q : Refusal). q.answer) (sym t.0) ∙ z))

pub find-found-requires : goal.find-found-requires
find-found-requires c =
    let a = c.args in
    let r = reconstruct_refusal a.points.now a.normals.now a.settings (length a.words.now) (length a.floats.now) in
    ready_of a.settings a.points.now a.normals.now a.words.now a.floats.now (outcome_ok r.answer r c.in_default.ensures)

pub deliver-patch-requires : goal.deliver-patch-requires
deliver-patch-requires c =
    let a = c.args in
    let w = c.clear in
    let f = c.find-found in
    let r = reconstruct_refusal a.points.now a.normals.now a.settings (length a.words.now) (length a.floats.now) in
    let ready = ready_of a.settings a.points.now a.normals.now a.words.now a.floats.now (outcome_ok r.answer r c.in_default.ensures) in
    held_of _ _ _ _ _ _ f.ensures w.new.w (omega (arith, w.auto.w, f.auto.words, ready.sized.words_enough))

pub returns : goal.returns
returns c =
    let a = c.args in
    let w = c.clear in
    let f = c.find-found in
    let d = c.deliver-patch in
    let r = reconstruct_refusal a.points.now a.normals.now a.settings (length a.words.now) (length a.floats.now) in
    taken a.points.now a.normals.now a.settings a.turned a.faces.now a.origins.now a.words.now a.floats.now r refl _ _ _ _ _
    (outcome_ok r.answer r c.in_default.ensures)
    (d.ensures _ _ _ f.ensures refl (zeros_again w.new.w (length f.new.words) w.ensures))
    (c.clear-3.ensures ∙ ap (λ (k : ℕ). replicate k 0) (d.auto.words ∙ w.auto.w ∙ f.auto.words))
    (c.clear-2.ensures ∙ ap (λ (k : ℕ). replicate k (f32 0)) f.auto.floats)
