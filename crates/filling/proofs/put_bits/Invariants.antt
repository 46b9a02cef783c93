use Rattle.filling.proofs.Fill.{Bitten}
use Rattle.filling.proofs.put_bits.Given as goal

abbrev pub invariant-loop-i : goal.invariant-loop-i
invariant-loop-i l = Bitten l.floats l.initial.index l.index l.at l.i
