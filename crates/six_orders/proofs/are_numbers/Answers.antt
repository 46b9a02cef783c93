-- `are_numbers` meets its contract: what is compared is a number.
use mathlib.Core.Path.{sym, subst}
use lib.Dec.{T}
use Rattle.numbers.specs.Rounded.{f32}
use Rattle.numbers.proofs.OrderLaws.{le_left}
use Rattle.six_orders.proofs.are_numbers.Goals as goal

pub returns-then-not-x : goal.returns-then-not-x
returns-then-not-x c = λ h. absurd (subst T (sym h) tt)

pub returns-then-not-y : goal.returns-then-not-y
returns-then-not-y c = λ h. absurd (subst T (sym h) tt)

pub returns : goal.returns
returns c =
    let a = c.args in
    let four = f32 0x40800000 in λ h. (
      le_left a.x four (rw (c.if-not-x.false) tt),
      le_left a.y four (rw (c.if-not-y.false) tt),
      le_left a.z four (rw h tt),
    )
