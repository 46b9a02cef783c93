-- `put_from` meets its contract. The loop's invariant: the first i numbers are copied, the rest is as lent. Assumes nothing.
use Rattle.std.proofs.Common.{◌≡◌}
use Rattle.std.proofs.Math.Seq.{paste}
use Rattle.axis_orders.proofs.put_from.Given as goal

abbrev pub invariant-loop-i : goal.invariant-loop-i
invariant-loop-i l = l.list ≡ paste l.initial.list l.from l.work l.i
