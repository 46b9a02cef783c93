-- `fractions::greatest_divisor` meets its contract: what is the greatest divisor of the two numbers left is that of the
-- two at the start. Assumes nothing.
use native.Mathlib.Nat.{mod-lt}
use Rattle.fractions.proofs.Divisors.{above_zero, at_zero, step, greatest_only}
use Rattle.fractions.proofs.greatest_divisor.Goals as goal

pub loop-y-init : goal.loop-y-init
loop-y-init c = λ g is. is

pub nonzero_rem-rest : goal.nonzero_rem-rest
nonzero_rem-rest c = above_zero _ c.loop-y-test.true

pub loop-y-smaller : goal.loop-y-smaller
loop-y-smaller c = mod-lt _ (above_zero _ c.loop-y-test.true)

pub loop-y-preserved : goal.loop-y-preserved
loop-y-preserved c = λ g is. c.loop-y.invariant g (step _ _ g is)

pub returns : goal.returns
returns c = greatest_only _ _ _ (c.loop-y.invariant _ (at_zero _ _ c.loop-y-test.false))
