-- `cloud_lines::skipping::skip_triple` meets its contract: each way out is a case of `triple`. Assumes nothing.
use mathlib.Core.Path.{◌∙◌}
use lib.ListN.{drop}
use Rattle.cloud_lines.specs.Format.{field, triple}
use Rattle.cloud_lines.proofs.Bare.{then_none, then_some, bare_then}
use Rattle.cloud_lines.proofs.skipping.skip_triple.Goals as goal

pub returns-in_err-second : goal.returns-in_err-second
unfolding triple
returns-in_err-second c =
    let a = c.args in
    rw c.from_residual.ensures (then_none a.s.now (field 44 (drop a.at a.s.now)) _ c.in_err-second.ensures)

pub returns-in_err-third : goal.returns-in_err-third
unfolding triple
returns-in_err-third c =
    let a = c.args in
    let s = a.s.now in
    let second = c.in_ok-second.second in
    rw c.from_residual-in_err-third.ensures (then_some s (field 44 (drop a.at s)) _ _ c.in_ok-second.ensures _
    (λ x. then_none s (field 44 (drop second s)) _ c.in_err-third.ensures))

pub returns : goal.returns
unfolding triple
returns c =
    let a = c.args in
    let s = a.s.now in
    let second = c.in_ok-second.second in
    let third = c.in_ok-third.third in
    then_some s (field 44 (drop a.at s)) _ _ c.in_ok-second.ensures _
    (λ x. then_some s (field 44 (drop second s)) _ _ c.in_ok-third.ensures _
    (λ y. c.skip_field-3.ensures ∙ bare_then (field a.last (drop third s)) _))
