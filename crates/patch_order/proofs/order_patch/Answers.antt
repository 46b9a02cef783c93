-- `patch_order::order_patch` meets its contract: the pass over the lines and the first checks decide, and then the last
-- ones. Assumes nothing.
use Prim.Native.Nat.{ℕ}
use mathlib.Core.Path.{◌≡◌, refl, ap, ◌∙◌}
use native.Mathlib.Omega.{arith}
use lib.ListN.{length, replicate}
use Rattle.answers.proofs.Outcome.{outcome_ok, outcome_err}
use Rattle.domain.specs.declared.Refusal.{Refusal}
use Rattle.domain.specs.Refusals.{first_refusal}
use Rattle.face_lines.proofs.Scanning.{scanned_good, scanned_wrong}
use Rattle.patch_order.specs.Ordering.{first_checks, refused_with}
use Rattle.patch_order.proofs.Whole.{first_is, whole_wrong, whole_first, whole_last, checked}
use Rattle.patch_order.proofs.order_patch.Goals as goal

pub returns-in-Err : goal.returns-in-Err
returns-in-Err c = whole_wrong _ _ _ _ _ _ (scanned_wrong _ _ _ c.in-Err.ensures) _ c.refused.ensures

pub returns-in-Err-outcome : goal.returns-in-Err-outcome
returns-in-Err-outcome c =
    let a = c.args in
    let g = scanned_good _ _ _ c.in-Ok.ensures in
    let f = first_refusal (first_checks a.point_count c.in-Ok.seen.outside c.in-Ok.seen.twice (length a.words.now) (length a.floats.now)) in
    let t = outcome_err f.answer f c.in-Err-outcome.ensures in
    whole_first a.bytes.now _ _ a.words.now a.floats.now g.faces g.lines f.answer
    (first_is _ _ _ g _ _ _ refl) t.1 _
    (c.refused-in-Err-outcome.ensures ∙ ap (λ (r : Refusal). refused_with r.answer 0) t.0)

pub order_lines-ordered-requires : goal.order_lines-ordered-requires
order_lines-ordered-requires c =
    let a = c.args in
    let g = scanned_good _ _ _ c.in-Ok.ensures in
    let f = first_refusal (first_checks a.point_count c.in-Ok.seen.outside c.in-Ok.seen.twice (length a.words.now) (length a.floats.now)) in
    checked a.bytes.now _ a.order.now a.words.now a.floats.now g.faces g.lines f.answer
    (first_is _ _ _ g _ _ _ refl) (outcome_ok f.answer f c.in_default.ensures) _ g.many

pub returns : goal.returns
returns c =
    let a = c.args in
    let o = c.order_lines-ordered in
    let g = scanned_good _ _ _ c.in-Ok.ensures in
    let f = first_refusal (first_checks a.point_count c.in-Ok.seen.outside c.in-Ok.seen.twice (length a.words.now) (length a.floats.now)) in
    let same : length o.new.words ≡ length a.words.now = omega arith in
    whole_last a.bytes.now _ _ a.words.now a.floats.now g.faces g.lines f.answer
    (first_is _ _ _ g _ _ _ refl) (outcome_ok f.answer f c.in_default.ensures) _ _ _ _ o.ensures
    (c.clear.ensures ∙ ap (λ (n : ℕ). replicate n 0) same) c.clear-2.ensures
