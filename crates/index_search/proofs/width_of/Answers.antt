use native.Mathlib.Omega.{arith}
use Rattle.index_search.proofs.Widths.{grown_start, grown_step, grown_end, power_some}
use Rattle.index_search.proofs.width_of.Reads as reads
use Rattle.index_search.proofs.width_of.Lts as lts
use Rattle.index_search.proofs.width_of.Goals as goal

pub loop-width-init : goal.loop-width-init
loop-width-init c = grown_start _

pub overflow_mul-width : goal.overflow_mul-width
overflow_mul-width c = omega (arith, c.loop-width.invariant.small)

pub overflow_mul-width-in-loop-width : goal.overflow_mul-width-in-loop-width
overflow_mul-width-in-loop-width c = omega (arith, c.loop-width.invariant.small)

pub loop-width-smaller : goal.loop-width-smaller
loop-width-smaller c = omega (arith, c.loop-width-test.true, power_some c.loop-width.invariant.power)

pub loop-width-preserved : goal.loop-width-preserved
loop-width-preserved c = grown_step c.loop-width.invariant c.requires.1 c.loop-width-test.true

pub returns : goal.returns
returns c = grown_end c.loop-width.invariant c.loop-width-test.false
