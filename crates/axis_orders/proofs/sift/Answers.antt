use Rattle.axis_orders.proofs.Sifting.{sift_keep, sift_leave, sift_end}
use Rattle.std.proofs.Common.{arith}
use Rattle.axis_orders.proofs.sift.Goals.{then-is_before, else-is_before}
use Rattle.axis_orders.proofs.sift.Goals as goal

pub loop-i-preserved : goal.loop-i-preserved
loop-i-preserved c =
    let h = c.loop-i.invariant in
    elim c.if-is_before.branch [
      | then-is_before w ↦ rw w.kept-is (sift_keep h c.requires (omega (arith, h.size)) c.is_before.ensures w.if-is_before.true)
      | else-is_before w ↦ rw w.kept-is (sift_leave h c.requires (omega (arith, h.size)) c.is_before.ensures w.if-is_before.false)
    ]

pub returns : goal.returns
returns c = sift_end c.loop-i.invariant (omega (arith, c.loop-i.invariant.size))
