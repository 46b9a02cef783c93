-- `clamp` meets its contract.
use mathlib.Core.Path.{◌≡◌, sym}
use mathlib.Core.Bool.{cond}
use lib.Ieee.{lt}
use Rattle.numbers.specs.Order.{clamp}
use Rattle.numbers.proofs.clamp.Goals.{Joined-w-lo, then-w-lo, else-w-lo}
use Rattle.numbers.proofs.clamp.Goals as goal

-- what the first branch leaves
raised : (c : Joined-w-lo) → cond (lt c.args.v c.args.lo) c.args.lo c.args.v ≡ c.if-w-lo.w
raised c = elim c.if-w-lo.branch [ then-w-lo w ↦ rw w.if-w-lo.true (sym w.w-is) | else-w-lo w ↦ rw w.if-w-lo.false (sym w.w-is) ]

pub returns-then-w-hi : goal.returns-then-w-hi
unfolding clamp
returns-then-w-hi c = rw (raised c.before, c.if-w-hi.true)

pub returns-else-w-hi : goal.returns-else-w-hi
unfolding clamp
returns-else-w-hi c = rw (raised c.before, c.if-w-hi.false)
