-- `score_ahead` meets its contract: the tests over the kept cells are those of the points' own. Assumes nothing.
use mathlib.Core.Path.{◌∙◌}
use native.Mathlib.Omega.{arith}
use Rattle.grid.specs.Inner.Index.{earlier}
use Rattle.patch.specs.Lay.{edge}
use Rattle.patch.specs.Search.{score_of}
use Rattle.decisions.specs.Decisions.{floats_of}
use Rattle.nearby.specs.Inner.Ready.{used_in_scene}
use Rattle.nearby.specs.Inner.Narrow.{cell_at, in_cells}
use Rattle.lists.specs.Inner.Found.{option_sought}
use Rattle.pivot.specs.Inner.Best.{score_in}
use Rattle.pivot.proofs.Leading.{found_low, found_behind, found_ahead}
use Rattle.pivot.proofs.State.{test_kept}
use Rattle.pivot.proofs.candidates.score_ahead.Goals as goal

pub score_of-requires : goal.score_of-requires
score_of-requires c = let n = c in (n.requires.0, n.requires.2, n.requires.3, n.requires.4)

pub is_ahead-requires : goal.is_ahead-requires
is_ahead-requires c = let n = c in
    (n.requires.5, n.requires.2, n.requires.0.few, omega (arith, n.requires.0.work_long))

pub returns-then-is_ahead : goal.returns-then-is_ahead
unfolding score_in
returns-then-is_ahead c =
    let score-of = c.score_of in
    let start = c in
    let n = start in
    let a = n.args in
    found_ahead (earlier a.s.indexed (cell_at a.s.grid a.points.now)) a.top (option_sought a.best) a.k
    (in_cells a.s.indexed a.s.grid a.points.now a.o.filter.range a.o.filter.cell a.k)
    (score_of (floats_of a.s a.points.now) a.o.radius (used_in_scene a.s a.w.now) (edge a.o.a a.o.b) a.k)
    score-of.ensures c.in_ok-x.was
    (c.is_ahead.ensures ∙ test_kept a.s a.points.now a.w.now a.o.filter a.k _ a.top a.best n.requires.1 n.requires.2
    n.requires.5) c.if-is_ahead.true

pub returns-else-is_ahead : goal.returns-else-is_ahead
unfolding score_in
returns-else-is_ahead c =
    let score-of = c.score_of in
    let start = c in
    let n = start in
    let a = n.args in
    found_behind (earlier a.s.indexed (cell_at a.s.grid a.points.now)) a.top (option_sought a.best) a.k
    (in_cells a.s.indexed a.s.grid a.points.now a.o.filter.range a.o.filter.cell a.k)
    (score_of (floats_of a.s a.points.now) a.o.radius (used_in_scene a.s a.w.now) (edge a.o.a a.o.b) a.k)
    score-of.ensures c.in_ok-x.was
    (c.is_ahead.ensures ∙ test_kept a.s a.points.now a.w.now a.o.filter a.k _ a.top a.best n.requires.1 n.requires.2
    n.requires.5) c.if-is_ahead.false

pub returns-in_err-x : goal.returns-in_err-x
unfolding score_in
returns-in_err-x c =
    let a = c.args in
    c.from_residual.ensures ∙ found_low (earlier a.s.indexed (cell_at a.s.grid a.points.now)) a.top (option_sought a.best) a.k
    (in_cells a.s.indexed a.s.grid a.points.now a.o.filter.range a.o.filter.cell a.k)
    (score_of (floats_of a.s a.points.now) a.o.radius (used_in_scene a.s a.w.now) (edge a.o.a a.o.b) a.k)
    c.score_of.ensures c.in_err-x.was
