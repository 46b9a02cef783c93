-- `numerals::behind_minus` meets its contract. Assumes nothing.
use mathlib.Core.Path.{sym, ◌∙◌}
use native.Mathlib.Omega.{arith}
use Rattle.numerals.proofs.Bytes.{starts_inside}
use Rattle.numerals.proofs.behind_minus.Goals as goal

pub overflow_add-result : goal.overflow_add-result
overflow_add-result c =
    let s = c.args.s.now in let at = c.args.at in let h = starts_inside 45 s at
    (sym c.byte_is.ensures ∙ c.if-byte_is.true) in omega arith

pub returns-then-byte_is : goal.returns-then-byte_is
returns-then-byte_is c = rw (sym c.byte_is.ensures ∙ c.if-byte_is.true)

pub returns-else-byte_is : goal.returns-else-byte_is
returns-else-byte_is c = rw (sym c.byte_is.ensures ∙ c.if-byte_is.false)
