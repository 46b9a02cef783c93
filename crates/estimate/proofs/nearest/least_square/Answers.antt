-- What is in hand, with the points to come, is always the whole least square. Assumes nothing.
use Prim.Native.Nat.{◌+◌, ◌*◌}
use mathlib.Core.Path.{sym, ap, ◌∙◌}
use native.Mathlib.Omega.{arith}
use lib.ListN.{take, drop}
use lib.Ieee.{Float}
use Rattle.estimate.specs.Inner.Squares.{least_square}
use Rattle.lists.proofs.Members.{below_part}
use Rattle.estimate.proofs.Looking.{square_step, square_end}
use Rattle.estimate.proofs.nearest.least_square.Goals as goal

pub loop-k-init : goal.loop-k-init
loop-k-init c = ap (λ (x : Float). least_square c.args.points.now c.args.i x (take c.args.found (drop (4 * c.args.n) c.args.w.now))) (sym c.infinity-s.ensures)

pub overflow_cast-w : goal.overflow_cast-w
overflow_cast-w c =
    let l = c.loop-k in
    omega (arith, c.type_inv.w (4 * c.args.n + l.k))

pub lesser-s-requires : goal.lesser-s-requires
lesser-s-requires c =
    let l = c.loop-k in
    let j = below_part c.args.n c.args.w.now (4 * c.args.n) c.args.found l.k c.requires.5 c.loop-k-test.true
    (omega (arith, c.requires.2, c.requires.4)) in
    (omega (arith, c.requires.0, c.requires.3), omega (arith, j, c.requires.3))

pub loop-k-preserved : goal.loop-k-preserved
loop-k-preserved c =
    c.loop-k.invariant
    ∙ square_step c.args.points.now c.args.i c.args.w.now (4 * c.args.n) c.args.found (omega (arith, c.requires.2, c.requires.4)) c.loop-k.s
    c.lesser-s.result c.loop-k.k c.loop-k-test.true c.lesser-s.ensures

pub returns : goal.returns
returns c =
    let l = c.loop-k in
    sym (l.invariant ∙ square_end c.args.points.now c.args.i c.args.w.now (4 * c.args.n) c.args.found (omega (arith, c.requires.2, c.requires.4))
    l.s l.k c.loop-k-test.false)
