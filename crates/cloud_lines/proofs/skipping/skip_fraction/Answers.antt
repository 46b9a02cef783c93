-- `cloud_lines::skipping::skip_fraction` meets its contract. Assumes nothing.
use mathlib.Core.Path.{sym, ◌∙◌}
use native.Mathlib.Omega.{arith}
use Rattle.numerals.proofs.Bytes.{starts_inside}
use Rattle.cloud_lines.proofs.Bare.{fraction_skipped, fraction_absent}
use Rattle.cloud_lines.proofs.skipping.skip_fraction.Goals as goal

pub overflow_add-at : goal.overflow_add-at
overflow_add-at c =
    let a = c.args in let h = starts_inside 46 a.s.now a.at (sym c.byte_is.ensures ∙ c.if-byte_is.true) in omega arith

pub returns-then-byte_is : goal.returns-then-byte_is
returns-then-byte_is c =
    let a = c.args in fraction_skipped a.s.now a.at _
    (sym c.byte_is.ensures ∙ c.if-byte_is.true) c.skip_digits.ensures

pub returns-else-byte_is : goal.returns-else-byte_is
returns-else-byte_is c =
    let a = c.args in fraction_absent a.s.now a.at (sym c.byte_is.ensures ∙ c.if-byte_is.false)
