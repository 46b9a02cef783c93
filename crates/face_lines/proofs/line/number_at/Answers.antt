-- `face_lines::line::number_at` meets its contract: each way out is a case of `number`. Assumes nothing.
use mathlib.Core.Path.{sym, ◌∙◌}
use native.Mathlib.Omega.{arith}
use lib.Dec.{lit≤}
use Rattle.numerals.specs.Inner.Answers.{taken_means}
use Rattle.numerals.proofs.Bytes.{starts_inside}
use Rattle.numerals.proofs.Numeral.{skipped_some, skipped_digits_ready}
use Rattle.face_lines.proofs.Parts.{number_digits, number_open, number_read}
use Rattle.face_lines.proofs.line.number_at.Goals as goal

pub returns-in_err-stop : goal.returns-in_err-stop
unfolding taken_means
returns-in_err-stop c =
    let a = c.args in rw c.from_residual.ensures (number_digits a.s.now a.at a.end c.in_err-stop.ensures)

pub whole_of-requires : goal.whole_of-requires
whole_of-requires c = skipped_digits_ready _ _ _ _ (skipped_some _ _ _ _ c.in_ok-stop.ensures) (lit≤ tt)

pub overflow_add-result : goal.overflow_add-result
overflow_add-result c =
    let a = c.args in
    let h = starts_inside a.end a.s.now c.in_ok-stop.stop (sym c.byte_is.ensures ∙ c.if-byte_is.true) in
    omega arith

pub returns-then-byte_is : goal.returns-then-byte_is
unfolding taken_means
returns-then-byte_is c =
    let a = c.args in
    number_read a.s.now a.at a.end _ (skipped_some _ _ _ _ c.in_ok-stop.ensures) _ (sym c.byte_is.ensures ∙ c.if-byte_is.true)
    c.whole_of.ensures.0

pub returns-else-byte_is : goal.returns-else-byte_is
unfolding taken_means
returns-else-byte_is c =
    let a = c.args in
    number_open a.s.now a.at a.end _ (skipped_some _ _ _ _ c.in_ok-stop.ensures) (sym c.byte_is.ensures ∙ c.if-byte_is.false)
