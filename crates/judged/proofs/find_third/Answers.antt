-- `find_third` meets its contract. The loop's invariant: what is among all listed points is among those from m on.
-- Assumes nothing.
use Rattle.judged.specs.Inner.Triples.{is_beside_both}
use Rattle.judged.proofs.Triples.{seek_start, seek_hit, seek_miss, seek_end}
use Rattle.judged.proofs.find_third.Goals as goal

pub loop-m-init : goal.loop-m-init
loop-m-init c = seek_start (is_beside_both c.args.s c.args.points.now c.args.radius c.args.i c.args.j) c.requires.0.held c.requires.1

pub returns-then-is_beside_both : goal.returns-then-is_beside_both
returns-then-is_beside_both c =
    seek_hit (is_beside_both c.args.s c.args.points.now c.args.radius c.args.i c.args.j) c.loop-m.invariant c.loop-m-test.true c.listed_point-k.ensures.0
    c.is_beside_both.ensures c.if-is_beside_both.true

pub loop-m-preserved : goal.loop-m-preserved
loop-m-preserved c =
    seek_miss (is_beside_both c.args.s c.args.points.now c.args.radius c.args.i c.args.j) c.loop-m.invariant c.loop-m-test.true c.listed_point-k.ensures.0
    c.is_beside_both.ensures c.if-is_beside_both.false

pub returns : goal.returns
returns c = seek_end (is_beside_both c.args.s c.args.points.now c.args.radius c.args.i c.args.j) c.loop-m.invariant c.loop-m-test.false
