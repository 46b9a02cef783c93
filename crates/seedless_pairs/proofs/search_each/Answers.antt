-- `search_each` meets its contract. The loop's invariant: no point before the m-th makes a seed with point i and a
-- later one of the other range. Assumes nothing.
use Prim.Native.Nat.{ℕ}
use native.Mathlib.Omega.{arith}
use mathlib.Core.Path.{subst}
use Rattle.nearby.specs.Inner.Ready.{nth}
use Rattle.three_points.specs.Inner.Judged.{Seedless}
use Rattle.flatness.proofs.Below.{below_next}
use Rattle.seedless_pairs.proofs.search_each.Goals as goal

pub loop-m-init : goal.loop-m-init
loop-m-init c = λ x h k. absurd (omega arith)

pub listed_point-j-requires : goal.listed_point-j-requires
listed_point-j-requires c =
    let g = c.requires in
    (g.held.few, g.held.work_long, g.first_in.listed, c.loop-m-test.true)

pub search_beside-requires : goal.search_beside-requires
search_beside-requires c =
    let g = c.requires in
    (g.held, g.second_in.listed, g.inside, c.listed_point-j.ensures.1, g.judged)

pub loop-m-preserved : goal.loop-m-preserved
loop-m-preserved c =
    let a = c.args in
    below_next c.loop-m.invariant (λ _ k b e h. subst (λ (j : ℕ). Seedless a.s a.points.now a.radius a.i j (nth a.s a.w.now k))
    c.listed_point-j.ensures.0 (c.in_ok-left.ensures k (omega (arith, c.max-from.ensures)) e))

pub returns : goal.returns
returns c = λ j k a b d e l. c.loop-m.invariant j (omega (arith, c.loop-m-test.false)) a k d e l
