-- `find_second` meets its contract. The loop's invariant: what is found among the neighbours asked for is found among
-- those from m on. Assumes nothing.
use native.Mathlib.Omega.{arith}
use Rattle.seed.proofs.Steps.{second_start, second_found, second_on, second_none}
use Rattle.seed.proofs.triples.find_second.Goals as goal

pub loop-m-init : goal.loop-m-init
loop-m-init c = second_start c.requires.0 c.requires.1 c.requires.4

pub listed_point-j-requires : goal.listed_point-j-requires
listed_point-j-requires c =
    let start = c in
    (start.requires.0.few, start.requires.0.work_long, start.requires.1, omega (arith, c.loop-m-test.true, start.requires.4))

pub try_second-found-requires : goal.try_second-found-requires
try_second-found-requires c =
    let start = c in
    (start.requires.0, start.requires.1, start.requires.2, c.listed_point-j.ensures.1, start.requires.3)

pub returns-in-Some : goal.returns-in-Some
returns-in-Some c =
    let listed-point = c.listed_point-j in
    let loop-test = c.loop-m-test in
    let loop = c.loop-m in
    second_found loop.invariant loop-test.true listed-point.ensures.0 c.try_second-found.ensures c.in-Some.is

pub loop-m-preserved : goal.loop-m-preserved
loop-m-preserved c =
    let loop-test = c.loop-m-test in
    let loop = c.loop-m in
    second_on loop.invariant loop-test.true c.listed_point-j.ensures.0 c.try_second-found.ensures
    c.in_default.is

pub returns : goal.returns
returns c = second_none c.loop-m.invariant c.loop-m-test.false
