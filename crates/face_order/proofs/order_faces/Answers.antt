-- `order_faces` meets its contract: the count, the pass over the faces and the first checks decide, and then the last
-- ones. Assumes nothing.
use Prim.Native.Nat.{ℕ}
use mathlib.Core.Path.{◌≡◌, refl, ap, ◌∙◌}
use native.Mathlib.Omega.{arith}
use lib.ListN.{length, replicate}
use Rattle.answers.proofs.Outcome.{outcome_ok, outcome_err}
use Rattle.domain.specs.declared.Refusal.{Refusal}
use Rattle.domain.specs.Refusals.{first_refusal}
use Rattle.patch_order.specs.Ordering.{first_checks, refused_with}
use Rattle.face_order.proofs.Whole.{whole_threes, whole_first, whole_last, ready, first_is}
use Rattle.face_order.proofs.order_faces.Goals as goal

pub returns-then-faces-ne0 : goal.returns-then-faces-ne0
returns-then-faces-ne0 c =
    whole_threes c.args.faces.now c.args.point_count
    c.args.order.now c.args.words.now
    c.args.floats.now c.if-faces-ne0.true _ c.refused.ensures

pub returns-in-Err : goal.returns-in-Err
returns-in-Err c =
    let a = c.args in
    let s = c.look_at-seen in
    let f = first_refusal (first_checks a.point_count s.result.outside s.result.twice (length a.words.now) (length a.floats.now)) in
    let t = outcome_err f.answer f c.in-Err.ensures in
    whole_first a.faces.now a.point_count a.order.now a.words.now a.floats.now c.if-faces-ne0.false f.answer
    (first_is a.faces.now a.point_count _ _ _ s.ensures refl) t.1 _
    (c.refused-in-Err.ensures ∙ ap (λ (r : Refusal). refused_with r.answer 0) t.0)

pub order_checked-ordered-requires : goal.order_checked-ordered-requires
order_checked-ordered-requires c =
    let a = c.args in
    let s = c.look_at-seen in
    let f = first_refusal (first_checks a.point_count s.result.outside s.result.twice (length a.words.now) (length a.floats.now)) in
    ready a.faces.now a.point_count a.order.now a.words.now a.floats.now c.if-faces-ne0.false f.answer
    (first_is a.faces.now a.point_count _ _ _ s.ensures refl) (outcome_ok f.answer f c.in_default.ensures)

pub returns : goal.returns
returns c =
    let a = c.args in
    let s = c.look_at-seen in
    let o = c.order_checked-ordered in
    let f = first_refusal (first_checks a.point_count s.result.outside s.result.twice (length a.words.now) (length a.floats.now)) in
    let same : length o.new.words ≡ length a.words.now = omega (arith, o.auto.words) in
    whole_last a.faces.now a.point_count a.order.now a.words.now a.floats.now c.if-faces-ne0.false f.answer
    (first_is a.faces.now a.point_count _ _ _ s.ensures refl) (outcome_ok f.answer f c.in_default.ensures) _ _ _ _ o.ensures
    (c.clear.ensures ∙ ap (λ (n : ℕ). replicate n 0) same) c.clear-2.ensures
