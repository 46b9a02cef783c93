use native.Mathlib.Omega.{arith}
use Rattle.filling.proofs.Fill.{numbered_start, numbered_size, numbered_step, numbered_end}
use Rattle.filling.proofs.number_order.Goals as goal

pub loop-i-init : goal.loop-i-init
loop-i-init c = numbered_start _

pub loop-i-preserved : goal.loop-i-preserved
loop-i-preserved c = numbered_step c.loop-i.invariant (omega (arith, numbered_size c.loop-i.invariant))

pub returns : goal.returns
returns c = numbered_end c.loop-i.invariant (omega (arith, numbered_size c.loop-i.invariant))
