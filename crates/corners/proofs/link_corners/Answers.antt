-- `corners::link_corners` meets its contract. The loop's invariant: the corners below s are linked. Assumes nothing.
use Prim.Native.Nat.{◌*◌}
use mathlib.Core.Path.{◌≡◌}
use Rattle.corners.proofs.Chain.{partly_start, partly_step, partly_end}
use native.Mathlib.Omega.{arith}
use Rattle.corners.proofs.link_corners.Goals as goal

pub loop-s-init : goal.loop-s-init
loop-s-init c = partly_start c.args.n (3 * c.args.count) c.args.words.now c.requires.4

pub loop-s-preserved : goal.loop-s-preserved
loop-s-preserved c =
    let l = c.loop-s in
    let a = c.args in
    partly_step a.n (3 * a.count) a.words.now c.requires.2 (omega arith) c.requires.3 l.s l.words l.auto.words (omega arith) l.invariant

pub returns : goal.returns
returns c =
    let l = c.loop-s in
    let a = c.args in
    let e : l.s ≡ 3 * a.count = omega arith in
    partly_end a.n (3 * a.count) a.words.now c.requires.2 (omega arith) c.requires.3 l.words (rw e at l.invariant)
