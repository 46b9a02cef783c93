-- `cloud_lines::line::triple_at` meets its contract: each way out is a case of `triple`. Assumes nothing.
use native.Mathlib.Omega.{arith}
use Rattle.numerals.specs.Inner.Answers.{taken_means, taken_end}
use Rattle.numerals.specs.Format.{then}
use Rattle.cloud_lines.specs.Format.{triple}
use Rattle.cloud_lines.proofs.line.triple_at.Goals as goal

pub returns-in_err-x : goal.returns-in_err-x
unfolding taken_means taken_end triple then
returns-in_err-x c =
    record { means = rw (c.from_residual.ensures, ← c.in_err-x.ensures.means); in_bounds = rw c.from_residual.ensures (omega arith) }

pub returns-in_err-y : goal.returns-in_err-y
unfolding taken_means taken_end triple then
returns-in_err-y c =
    let none = c.from_residual-in_err-y.ensures in
    record { means = rw (none, ← c.in_ok-x.ensures.means, ← c.in_err-y.ensures.means); in_bounds = rw none (omega arith) }

pub returns-in_err-z : goal.returns-in_err-z
unfolding taken_means taken_end triple then
returns-in_err-z c =
    let none = c.from_residual-in_err-z.ensures in
    record {
      means = rw (none, ← c.in_ok-x.ensures.means, ← c.in_ok-y.ensures.means, ← c.in_err-z.ensures.means);
      in_bounds = rw none (omega arith);
    }

pub returns : goal.returns
unfolding taken_means taken_end triple then
returns c =
    record {
      means = rw (← c.in_ok-x.ensures.means, ← c.in_ok-y.ensures.means, ← c.in_ok-z.ensures.means);
      in_bounds = c.in_ok-z.ensures.in_bounds;
    }
