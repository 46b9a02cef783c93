-- `is_positive` meets its contract.
use mathlib.Core.Path.{sym, subst, ◌∙◌}
use lib.Dec.{T}
use Rattle.numbers.proofs.Compare.{infinite}
use Rattle.six_orders.proofs.Positive.{positive_below}
use Rattle.six_orders.proofs.is_positive.Goals as goal

pub returns-then-x : goal.returns-then-x
returns-then-x c = λ h. positive_below c.args.x (rw c.if-x.true tt) (rw (← infinite, h) tt)

pub returns-else-x : goal.returns-else-x
returns-else-x c = λ h. absurd (subst T (sym h ∙ c.if-x.false) tt)
