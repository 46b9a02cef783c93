-- `try_ball_pivot` meets its contract: over an edge of a good length it is the search for the best point. Assumes
-- nothing.
use mathlib.Core.Path.{sym, ◌∙◌}
use Rattle.patch.specs.Lay.{edge}
use Rattle.decisions.specs.Decisions.{floats_of}
use Rattle.nearby.specs.Inner.Ready.{used_in_scene}
use Rattle.nearby.proofs.Keeping.{kept_self}
use Rattle.pivot.proofs.Laws.{pivot_not, pivot_is}
use Rattle.pivot.proofs.try_ball_pivot.Goals as goal

pub returns-then-not-is_pivotable : goal.returns-then-not-is_pivotable
unfolding floats_of
returns-then-not-is_pivotable c =
    let a = c in
    let t = c.is_pivotable in (
      pivot_not (floats_of a.args.s a.args.points.now) a.args.radius (used_in_scene a.args.s a.args.w.now) a.args.s.n
          (edge a.args.a a.args.b) (sym t.ensures ∙ c.if-not-is_pivotable.true),
      kept_self a.args.s a.args.w.now,
    )

pub find_best-requires : goal.find_best-requires
find_best-requires c = let a = c in
    (a.requires.0, a.requires.1, a.requires.2, a.requires.3, a.requires.4)

pub shape_of-w : goal.shape_of-w
shape_of-w c = c.find_best.auto.w

pub returns : goal.returns
unfolding floats_of
returns c =
    let if1 = c.if-not-is_pivotable in
    let is-pivotable = c.is_pivotable in
    let start = c in
    let a = start in
    let f = c.find_best in
    let t = is-pivotable in (
      f.ensures.0
          ∙ pivot_is (floats_of a.args.s a.args.points.now) a.args.radius (used_in_scene a.args.s a.args.w.now) a.args.s.n
          (edge a.args.a a.args.b) (sym t.ensures ∙ if1.false),
      f.ensures.1,
    )
