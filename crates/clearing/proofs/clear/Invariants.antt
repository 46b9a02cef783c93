-- `clearing::clear` meets its contract. The loop's invariant: what is passed is zeros, the rest as lent. Assumes nothing.
use Rattle.std.proofs.Common.{◌≡◌, ◌++◌, drop, replicate}
use Rattle.clearing.proofs.clear.Given as goal

abbrev pub invariant-loop-i : goal.invariant-loop-i
invariant-loop-i g l = l.w ≡ replicate l.i g.T.Zero.ZERO ++ drop l.i l.initial.w
