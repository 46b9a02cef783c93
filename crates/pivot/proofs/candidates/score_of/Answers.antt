-- `score_of` meets its contract: each test that fails is one of `score_of`. Assumes nothing.
use mathlib.Core.Path.{sym, ap, ◌∙◌}
use mathlib.Core.Option.{Option}
use lib.Ieee.{Float}
use borrow.Author.Tests.{eq-eqb, ne_eqb}
use Rattle.points.specs.Points.{point_at}
use Rattle.patch.specs.Lay.{edge}
use Rattle.decisions.specs.Decisions.{floats_of}
use Rattle.lists.specs.Inner.Found.{option_found}
use Rattle.decisions.specs.Found.{at_least}
use Rattle.scores.proofs.Over.{over_at, side_own}
use Rattle.nearby.specs.Inner.Ready.{used_in_scene}
use Rattle.pivot.proofs.Laws.{met, not_met, unscored}
use Rattle.pivot.proofs.candidates.score_of.Goals as goal

pub returns-then-k-o : goal.returns-then-k-o
returns-then-k-o c =
    let a = c.args in
    unscored (floats_of a.s a.points.now) a.o.radius (used_in_scene a.s a.w.now) (edge a.o.a a.o.b) a.k a.top
    (not_met (floats_of a.s a.points.now) a.o.radius (used_in_scene a.s a.w.now) (edge a.o.a a.o.b) a.k
    (rw (eq-eqb a.k a.o.a c.if-k-o.true)))

pub returns-then-k-o-2 : goal.returns-then-k-o-2
returns-then-k-o-2 c =
    let a = c.args in
    unscored (floats_of a.s a.points.now) a.o.radius (used_in_scene a.s a.w.now) (edge a.o.a a.o.b) a.k a.top
    (not_met (floats_of a.s a.points.now) a.o.radius (used_in_scene a.s a.w.now) (edge a.o.a a.o.b) a.k
    (rw (ne_eqb a.k a.o.a c.if-k-o.false, eq-eqb a.k a.o.b c.if-k-o-2.true)))

pub returns-then-not-is_unused : goal.returns-then-not-is_unused
returns-then-not-is_unused c =
    let if1 = c.if-k-o in
    let start = c in
    let a = start.args in
    unscored (floats_of a.s a.points.now) a.o.radius (used_in_scene a.s a.w.now) (edge a.o.a a.o.b) a.k a.top
    (not_met (floats_of a.s a.points.now) a.o.radius (used_in_scene a.s a.w.now) (edge a.o.a a.o.b) a.k
    (rw (ne_eqb a.k a.o.a if1.false, ne_eqb a.k a.o.b c.if-k-o-2.false)
    (sym c.is_unused.ensures ∙ c.if-not-is_unused.true)))

pub score_over-requires : goal.score_over-requires
score_over-requires c =
    let n = c in
    let a = n.args in
    (side_own (point_at a.points.now a.o.a) (point_at a.points.now a.o.b) n.requires.2, n.requires.3)

pub returns : goal.returns
unfolding floats_of
returns c =
    let if2 = c.if-k-o-2 in
    let if1 = c.if-k-o in
    let start = c in
    let n = start in
    let a = n.args in
    let u = c.is_unused in
    c.score_over.ensures
    ∙ ap (λ (o : Option Float). option_found (at_least a.top o))
    (over_at a.s a.points.now a.o.radius a.o.a a.o.b a.k n.requires.2 c.point_at-t.ensures
    ∙ met (floats_of a.s a.points.now) a.o.radius (used_in_scene a.s a.w.now) (edge a.o.a a.o.b) a.k
    (rw (ne_eqb a.k a.o.a if1.false, ne_eqb a.k a.o.b if2.false) (sym u.ensures ∙ c.if-not-is_unused.false)))
