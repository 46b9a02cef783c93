-- `search_beside` meets its contract. The loop's invariant: no point before the m-th makes a seed with points i and j,
-- whichever comes first. Assumes nothing.
use mathlib.Core.Path.{subst}
use native.Mathlib.Omega.{arith}
use Rattle.three_points.specs.Inner.Judged.{Seedless}
use Rattle.flatness.proofs.Below.{below_next}
use Rattle.seedless_pairs.proofs.search_beside.Goals as goal

pub loop-m-init : goal.loop-m-init
loop-m-init c = λ x h k. absurd (omega arith)

pub listed_point-k-requires : goal.listed_point-k-requires
listed_point-k-requires c =
    let a = c in
    (a.requires.0.few, a.requires.0.work_long, a.requires.1, c.loop-m-test.true)

pub price_of-requires : goal.price_of-requires
price_of-requires c =
    let a = c in
    (a.requires.0.points_long, a.requires.2, a.requires.3, c.listed_point-k.ensures.1, a.requires.4)

pub loop-m-preserved : goal.loop-m-preserved
loop-m-preserved c =
    let a = c.args in
    below_next c.loop-m.invariant
    (λ h. subst (Seedless a.s a.points.now a.radius a.i a.j) c.listed_point-k.ensures.0 c.in_ok-price.ensures)

pub returns : goal.returns
returns c = λ m a b. c.loop-m.invariant m (omega (arith, c.loop-m-test.false)) a
