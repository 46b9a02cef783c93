use Rattle.filling.proofs.Fill.{Numbered}
use Rattle.filling.proofs.number_order.Given as goal

abbrev pub invariant-loop-i : goal.invariant-loop-i
invariant-loop-i l = Numbered l.initial.order l.order l.i
