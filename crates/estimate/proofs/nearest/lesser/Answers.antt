use mathlib.Core.Path.{◌≡◌, sym}
use mathlib.Core.Bool.{cond}
use lib.Ieee.{lt}
use Rattle.estimate.specs.Inner.Squares.{lesser_square}
use Rattle.estimate.proofs.Looking.{lesser_self, lesser_other}
use Rattle.estimate.proofs.nearest.lesser.Goals as goal

pub returns-then-i-j : goal.returns-then-i-j
returns-then-i-j c = lesser_self c.args.points.now c.args.i c.args.j c.args.s c.if-i-j.true

pub returns-then-e-s : goal.returns-then-e-s
returns-then-e-s c = sym (rw (
  (let two_here : lesser_square c.args.points.now c.args.i c.args.j
      c.args.s
      ≡ cond (lt c.distance_squared-e.result c.args.s) c.distance_squared-e.result c.args.s = lesser_other c.args.points.now c.args.i c.args.j c.args.s c.distance_squared-e.result _ _ c.if-i-j.false
      c.point_at.ensures c.point_at-2.ensures c.distance_squared-e.ensures in two_here),
  c.if-e-s.true,
))

pub returns-else-e-s : goal.returns-else-e-s
returns-else-e-s c = sym (rw (
  (let two_here : lesser_square c.args.points.now c.args.i c.args.j
      c.args.s
      ≡ cond (lt c.distance_squared-e.result c.args.s) c.distance_squared-e.result c.args.s = lesser_other c.args.points.now c.args.i c.args.j c.args.s c.distance_squared-e.result _ _ c.if-i-j.false
      c.point_at.ensures c.point_at-2.ensures c.distance_squared-e.ensures in two_here),
  c.if-e-s.false,
))
