-- `find_second` meets its contract. The loop's invariant: what is among all listed points is among those from m on.
-- Assumes nothing.
use Rattle.nearby.specs.Inner.Ready.{neighbors_listed}
use Rattle.judged.specs.Inner.Triples.{has_third}
use Rattle.judged.proofs.Triples.{seek_start, seek_hit, seek_miss, seek_end}
use Rattle.judged.proofs.find_second.Goals as goal

pub loop-m-init : goal.loop-m-init
loop-m-init c = seek_start (has_third c.args.s c.args.points.now c.args.radius (neighbors_listed c.args.s c.args.w.now c.args.count) c.args.i) c.requires.0.held c.requires.1

pub returns-then-has_third : goal.returns-then-has_third
returns-then-has_third c =
    seek_hit (has_third c.args.s c.args.points.now c.args.radius (neighbors_listed c.args.s c.args.w.now c.args.count) c.args.i) c.loop-m.invariant c.loop-m-test.true c.listed_point-j.ensures.0 c.has_third.ensures
    c.if-has_third.true

pub loop-m-preserved : goal.loop-m-preserved
loop-m-preserved c =
    seek_miss (has_third c.args.s c.args.points.now c.args.radius (neighbors_listed c.args.s c.args.w.now c.args.count) c.args.i) c.loop-m.invariant c.loop-m-test.true c.listed_point-j.ensures.0 c.has_third.ensures
    c.if-has_third.false

pub returns : goal.returns
returns c = seek_end (has_third c.args.s c.args.points.now c.args.radius (neighbors_listed c.args.s c.args.w.now c.args.count) c.args.i) c.loop-m.invariant c.loop-m-test.false
