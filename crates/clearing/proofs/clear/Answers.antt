-- `clearing::clear` meets its contract.
use Rattle.std.proofs.Common.{arith}
use Rattle.clearing.proofs.Cleared.{fill_step}
use Rattle.clearing.proofs.clear.Goals as goal

pub loop-i-preserved : goal.loop-i-preserved
loop-i-preserved g c =
    let l = c.loop-i in
    rw c.ZERO.ensures (fill_step _ l.i _ _ (omega arith) l.invariant)
