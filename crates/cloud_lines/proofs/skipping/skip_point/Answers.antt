-- `cloud_lines::skipping::skip_point` meets its contract: each way out is a case of `point`. Assumes nothing.
use mathlib.Core.Path.{◌∙◌}
use lib.ListN.{drop}
use Rattle.cloud_lines.specs.Format.{triple, point_fields}
use Rattle.cloud_lines.proofs.Bare.{then_none, then_some, bare_then}
use Rattle.cloud_lines.proofs.skipping.skip_point.Goals as goal

pub returns-in_err-middle : goal.returns-in_err-middle
unfolding point_fields
returns-in_err-middle c =
    let a = c.args in
    rw c.from_residual.ensures (then_none a.s.now (triple 44 (drop a.at a.s.now)) _ c.in_err-middle.ensures)

pub returns : goal.returns
unfolding point_fields
returns c =
    let a = c.args in
    let s = a.s.now in
    let middle = c.in_ok-middle.middle in
    then_some s (triple 44 (drop a.at s)) _ _ c.in_ok-middle.ensures _
    (λ p. c.skip_triple-2.ensures ∙ bare_then (triple 10 (drop middle s)) _)
