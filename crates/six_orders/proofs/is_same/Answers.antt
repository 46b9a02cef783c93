-- `is_same` meets its contract.
use mathlib.Core.Path.{sym, subst, ◌∙◌}
use lib.Dec.{T}
use Rattle.six_orders.proofs.Positive.{same_is}
use Rattle.six_orders.proofs.is_same.Goals as goal

pub returns-then-x-y : goal.returns-then-x-y
returns-then-x-y c =
    let a = c.args in
    let f = c.requires in
    λ h. same_is a.x a.y f.0 f.1 (rw c.if-x.true tt) (rw c.if-x-y.true tt) (rw h tt)

pub returns-else-x-y : goal.returns-else-x-y
returns-else-x-y c = λ h. absurd (subst T (sym h ∙ c.if-x-y.false) tt)

pub returns-else-x : goal.returns-else-x
returns-else-x c = λ h. absurd (subst T (sym h ∙ c.if-x.false) tt)
