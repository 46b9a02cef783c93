-- `best_of` meets its contract. The loop's invariant: the best of all candidates is the best of those from m on, given
-- the best so far. Assumes nothing.
use mathlib.Core.Path.{◌≡◌}
use Rattle.vector.specs.declared.Point3f.{Point3f}
use Rattle.scores.specs.declared.Side.{Side}
use Rattle.scores.specs.Inner.Over.{edge_side}
use Rattle.pivot.proofs.Steps.{best_start, best_skip, best_taken, best_all}
use Rattle.pivot.proofs.candidates.best_of.Goals as goal
use Rattle.pivot.proofs.candidates.best_of.Goals.{in-Some, in_default}

between : {side : Side} {p q x y : Point3f} → side ≡ edge_side p q → p ≡ x → q ≡ y → side ≡ edge_side x y
between e f g = rw (← f, ← g) e

pub loop-m-init : goal.loop-m-init
loop-m-init c = let a = c in
    (best_start a.requires.0 a.requires.2, c.thin_at-thin.ensures)

pub listed_point-k-requires : goal.listed_point-k-requires
listed_point-k-requires c =
    let a = c in
    (a.requires.0.few, a.requires.0.work_long, a.requires.2, c.loop-m-test.true)

pub score_ahead-requires : goal.score_ahead-requires
score_ahead-requires c =
    let side-of = c.side_of-side in
    let point-at2 = c.point_at in
    let point_at_lem = c.point_at-p in
    let start = c in
    let a = start in
    let l = c.loop-m in
    let e = between side-of.ensures point_at_lem.ensures point-at2.ensures in
    (a.requires.0, a.requires.1, c.listed_point-k.ensures.1, e, l.invariant.1, l.invariant.0.met)

pub loop-m-preserved : goal.loop-m-preserved
loop-m-preserved c =
    let k = c.loop-m.invariant in
    let t = c.loop-m-test.true in
    let p = c.listed_point-k.ensures in
    let e = c.score_ahead.ensures in
    elim c.match-score_ahead.branch [
      | in-Some w ↦ rw (w.top-is, w.thin-is, w.best-is) (best_taken k.0 p.1 t p.0 e w.in-Some.is, w.thin_at-thin-in-Some.ensures)
      | in_default w ↦ rw (w.top-is, w.thin-is, w.best-is) (best_skip k.0 t p.0 e w.in_default.is, k.1)
    ]

pub returns : goal.returns
returns c = best_all c.loop-m.invariant.0 c.loop-m-test.false
