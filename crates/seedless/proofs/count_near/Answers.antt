-- `count_near` meets its contract: at most one is counted in each turn. Assumes nothing.
use native.Mathlib.Omega.{arith}
use Rattle.seedless.proofs.count_near.Goals as goal

pub loop-m-init : goal.loop-m-init
loop-m-init c = omega arith

pub listed_point-requires : goal.listed_point-requires
listed_point-requires c =
    let a = c in
    (a.requires.0.few, a.requires.0.work_long, a.requires.1, omega (arith, c.loop-m-test.true))

pub point_at-p-requires : goal.point_at-p-requires
point_at-p-requires c =
    let a = c in
    omega (arith, c.listed_point.ensures.1, a.requires.0.points_long)

pub listed_point-requires-in-loop-m : goal.listed_point-requires-in-loop-m
listed_point-requires-in-loop-m c =
    let l = c in
    let a = l in
    (a.requires.0.few, a.requires.0.work_long, a.requires.1, omega (arith, l.loop-m-test.true))

pub point_at-q-requires : goal.point_at-q-requires
point_at-q-requires c =
    let a = c in
    omega (arith, c.listed_point-in-loop-m.ensures.1, a.requires.0.points_long)

pub returns : goal.returns
returns c = omega arith
