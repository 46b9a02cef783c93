-- `score_from` meets its contract: the bound refuses only what is below `top`. Assumes nothing.
use mathlib.Core.Path.{sym, ap, ◌∙◌}
use Rattle.quality.proofs.Shapes.{shape_own, quality_own}
use Rattle.lists.specs.Inner.Found.{option_found}
use Rattle.decisions.proofs.Scores.{score_bound_lem, score_low, score_refused, score_kept}
use Rattle.decisions.proofs.score_from.Goals as goal

pub returns-then-score_bound-top : goal.returns-then-score_bound-top
returns-then-score_bound-top c =
    let a = c.args in
    ap option_found (score_bound_lem a.s a.radius a.top a.a a.b a.c a.area c.shape_of-shape.ensures
    c.score_bound.ensures c.if-score_bound-top.true)

pub quality_of-q-requires : goal.quality_of-q-requires
quality_of-q-requires c =
    let a = c.args in
    shape_own c.shape_of-shape.result a.a a.b a.c a.area c.shape_of-shape.ensures

pub returns-then-not-q-top : goal.returns-then-not-q-top
returns-then-not-q-top c =
    let a = c.args in
    let q = c.quality_of-q in
    rw (quality_own a.a a.b a.c a.area c.shape_of-shape.ensures q.ensures)
    (ap option_found (score_low a.s a.radius a.top q.result (c.if-not-q-top.true)))

pub returns-then-not-is_accepted : goal.returns-then-not-is_accepted
returns-then-not-is_accepted c =
    let a = c.args in
    let q = c.quality_of-q in
    rw (quality_own a.a a.b a.c a.area c.shape_of-shape.ensures q.ensures)
    (ap option_found (score_refused a.s a.radius a.top q.result
    (sym c.is_accepted.ensures ∙ c.if-not-is_accepted.true)))

pub returns : goal.returns
returns c =
    let a = c.args in
    let q = c.quality_of-q in
    rw (quality_own a.a a.b a.c a.area c.shape_of-shape.ensures q.ensures)
    (ap option_found (score_kept a.s a.radius a.top q.result (c.if-not-q-top.false)
    (sym c.is_accepted.ensures ∙ c.if-not-is_accepted.false)))
