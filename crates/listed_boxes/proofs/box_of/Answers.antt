-- `box_of` meets its contract. The loop's invariant: the box has the points before the m-th place. Assumes nothing.
use native.Mathlib.Omega.{arith}
use Rattle.listed_boxes.proofs.Boxing.{box_start, box_skip, box_more, box_end}
use Rattle.listed_boxes.proofs.box_of.Goals as goal
use Rattle.listed_boxes.proofs.box_of.Goals.{then-k-n, else-k-n}

pub loop-m-init : goal.loop-m-init
loop-m-init c = box_start

pub overflow_cast-k : goal.overflow_cast-k
overflow_cast-k c = record { fits = omega (arith, c.type_inv.list c.loop-m.m) }

pub loop-m-preserved : goal.loop-m-preserved
loop-m-preserved c =
    let k = c.loop-m.invariant in
    elim c.if-k-n.branch [
      | then-k-n w ↦ rw w.b-is (box_more k w.if-k-n.true w.point_at.ensures w.with_point-b.ensures)
      | else-k-n w ↦ rw w.b-is (box_skip k w.if-k-n.false)
    ]

pub returns : goal.returns
returns c = box_end c.loop-m.invariant c.loop-m-test.false
