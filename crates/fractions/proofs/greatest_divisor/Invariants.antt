-- `fractions::greatest_divisor` meets its contract: what is the greatest divisor of the two numbers left is that of the
-- two at the start. Assumes nothing.
use Prim.Native.Nat.{ℕ}
use Rattle.fractions.specs.Terms.{Greatest}
use Rattle.fractions.proofs.greatest_divisor.Given as goal

abbrev pub invariant-loop-y : goal.invariant-loop-y
invariant-loop-y l = (g : ℕ) → Greatest l.x l.y g → Greatest l.a l.b g

abbrev pub decreases-loop-y : goal.decreases-loop-y
decreases-loop-y l = l.y
