-- `decimals::doubled_bits` meets its contract: each doubling keeps the fraction (`Scaling`), and where it has 24 digits
-- its nearest whole number are the pattern's digits. Assumes nothing.
use Rattle.decimals.specs.Inner.Ready.{Scaling}
use Rattle.decimals.proofs.doubled_bits.Given as goal

abbrev pub invariant-loop-n : goal.invariant-loop-n
invariant-loop-n l = Scaling l.m l.d l.n l.h

abbrev pub decreases-loop-n : goal.decreases-loop-n
decreases-loop-n l = l.h
