-- `move_below` meets its contract: in each turn two words change places. Assumes nothing.
use Prim.Native.Nat.{◌+◌, ◌<◌}
use native.Mathlib.Omega.{arith}
use lib.ListN.{length, get_or, length-set}
use Rattle.listed_boxes.proofs.Words.{move_start, move_step}
use Rattle.listed_boxes.proofs.move_below.Goals as goal
use Rattle.listed_boxes.proofs.move_below.Goals.{then-coordinate-at, else-coordinate-at}

pub loop-m-init : goal.loop-m-init
loop-m-init c = move_start

pub bounds-list-kept-in-loop-m : goal.bounds-list-kept-in-loop-m
bounds-list-kept-in-loop-m c =
    let l = c.loop-m in
    omega (arith, length-set l.list l.m (get_or l.list l.kept 0), l.invariant.most, c.loop-m-test.true)

pub loop-m-preserved : goal.loop-m-preserved
loop-m-preserved c =
    let l = c.loop-m in
    let t : l.m < length l.list = omega (arith, l.invariant.words.size, c.loop-m-test.true) in
    elim c.if-coordinate-at.branch [
      | then-coordinate-at w ↦ rw w.kept-is (move_step (l.kept + 1) (omega arith) l.invariant t)
      | else-coordinate-at w ↦ rw w.kept-is (move_step l.kept (omega arith) l.invariant t)
    ]

pub shape_of-list : goal.shape_of-list
shape_of-list c = c.loop-m.invariant.words.size

pub returns : goal.returns
returns c = let k = c.loop-m.invariant in (omega (arith, k.most, k.inside), k.words)
