-- `cloud_lines::line::field_at` meets its contract: each way out is a case of `field`. Assumes nothing.
use mathlib.Core.Path.{sym, ◌∙◌}
use native.Mathlib.Omega.{arith}
use lib.Seq.{drop-drop}
use Rattle.numerals.specs.Inner.Answers.{taken_means, taken_end}
use Rattle.numerals.specs.Format.{then}
use Rattle.cloud_lines.specs.Format.{field}
use Rattle.numerals.proofs.Bytes.{starts_inside}
use Rattle.cloud_lines.proofs.line.field_at.Goals as goal

pub returns-in_err-value : goal.returns-in_err-value
unfolding taken_means taken_end field then
returns-in_err-value c =
    record { means = rw (c.from_residual.ensures, ← c.in_err-value.ensures); in_bounds = rw c.from_residual.ensures (omega arith) }

pub overflow_add-result : goal.overflow_add-result
overflow_add-result c =
    let h = starts_inside c.args.end c.args.s.now c.in_ok-value.next (sym c.byte_is.ensures ∙ c.if-byte_is.true) in omega arith

pub returns-then-byte_is : goal.returns-then-byte_is
unfolding taken_means taken_end field then
returns-then-byte_is c =
    let s = c.args.s.now in
    let end = sym c.byte_is.ensures ∙ c.if-byte_is.true in
    let next = c.in_ok-value.next in
    record {
      means = rw (← c.in_ok-value.ensures, end, drop-drop 1 next s);
      in_bounds = omega (arith, starts_inside c.args.end s next end);
    }

pub returns-else-byte_is : goal.returns-else-byte_is
unfolding taken_means taken_end field then
returns-else-byte_is c =
    record { means = rw (← c.in_ok-value.ensures, sym c.byte_is.ensures ∙ c.if-byte_is.false); in_bounds = omega arith }
