-- `cloud_lines::skipping::skip_field` meets its contract: each way out is a case of `field`. Assumes nothing.
use mathlib.Core.Path.{sym, ◌∙◌}
use native.Mathlib.Omega.{arith}
use lib.ListN.{drop}
use Rattle.numerals.specs.Format.{number}
use Rattle.cloud_lines.specs.Format.{field}
use Rattle.numerals.proofs.Bytes.{starts_inside}
use Rattle.cloud_lines.proofs.Bare.{then_none, then_some, ended, not_ended}
use Rattle.cloud_lines.proofs.skipping.skip_field.Goals as goal

pub returns-in_err-next : goal.returns-in_err-next
unfolding field
returns-in_err-next c =
    let a = c.args in
    rw c.from_residual.ensures (then_none a.s.now (number (drop a.at a.s.now)) _ c.in_err-next.ensures)

pub overflow_add-result : goal.overflow_add-result
overflow_add-result c =
    let a = c.args in
    let h = starts_inside a.end a.s.now c.in_ok-next.next (sym c.byte_is.ensures ∙ c.if-byte_is.true) in
    omega arith

pub returns-then-byte_is : goal.returns-then-byte_is
unfolding field
returns-then-byte_is c =
    let a = c.args in
    then_some a.s.now (number (drop a.at a.s.now)) _ _ c.in_ok-next.ensures _
    (λ v. ended a.end a.s.now c.in_ok-next.next v (sym c.byte_is.ensures ∙ c.if-byte_is.true))

pub returns-else-byte_is : goal.returns-else-byte_is
unfolding field
returns-else-byte_is c =
    let a = c.args in
    then_some a.s.now (number (drop a.at a.s.now)) _ _ c.in_ok-next.ensures _
    (λ v. not_ended a.end a.s.now c.in_ok-next.next v (sym c.byte_is.ensures ∙ c.if-byte_is.false))
