-- `cloud_lines::line::point_at` meets its contract: each way out is a case of `point`. Assumes nothing.
use native.Mathlib.Omega.{arith}
use Rattle.numerals.specs.Inner.Answers.{taken_means, taken_end}
use Rattle.numerals.specs.Format.{then}
use Rattle.cloud_lines.specs.Format.{point_fields}
use Rattle.cloud_lines.proofs.line.point_at.Goals as goal

pub returns-in_err-position : goal.returns-in_err-position
unfolding taken_means taken_end point_fields then
returns-in_err-position c =
    let none = c.from_residual.ensures in
    record { means = rw (none, ← c.in_err-position.ensures.means); in_bounds = rw none (omega arith) }

pub returns-in_err-normal : goal.returns-in_err-normal
unfolding taken_means taken_end point_fields then
returns-in_err-normal c =
    let none = c.from_residual-in_err-normal.ensures in
    record { means = rw (none, ← c.in_ok-position.ensures.means, ← c.in_err-normal.ensures.means); in_bounds = rw none (omega arith) }

pub returns : goal.returns
unfolding taken_means taken_end point_fields then
returns c =
    record {
      means = rw (← c.in_ok-position.ensures.means, ← c.in_ok-normal.ensures.means);
      in_bounds = c.in_ok-normal.ensures.in_bounds;
    }
