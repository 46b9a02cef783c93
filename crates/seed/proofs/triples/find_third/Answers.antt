-- `find_third` meets its contract. The loop's invariant: what is found among all neighbours is found among those from m
-- on. Assumes nothing.
use borrow.Author.Rules.{rules}
use Rattle.seed.proofs.Steps.{third_start, third_found, third_on, third_none}
use Rattle.seed.proofs.triples.find_third.Goals as goal

pub loop-m-init : goal.loop-m-init
loop-m-init c =
    let start = c in
    third_start start.requires.0 start.requires.1

pub listed_point-k-requires : goal.listed_point-k-requires
listed_point-k-requires c =
    let start = c in
    (start.requires.0.few, start.requires.0.work_long, start.requires.1, c.loop-m-test.true)

pub is_third-requires : goal.is_third-requires
is_third-requires c = let h = c.listed_point-k.ensures.1 in search rules

pub returns-then-is_third : goal.returns-then-is_third
returns-then-is_third c = third_found c.loop-m.invariant c.loop-m-test.true c.listed_point-k.ensures.0
    c.is_third.ensures c.if-is_third.true

pub loop-m-preserved : goal.loop-m-preserved
loop-m-preserved c = third_on c.loop-m.invariant c.loop-m-test.true c.listed_point-k.ensures.0
    c.is_third.ensures c.if-is_third.false

pub returns : goal.returns
returns c = third_none c.loop-m.invariant c.loop-m-test.false
