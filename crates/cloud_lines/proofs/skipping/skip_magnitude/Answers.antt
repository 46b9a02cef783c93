-- `cloud_lines::skipping::skip_magnitude` meets its contract. Assumes nothing.
use Rattle.cloud_lines.proofs.Bare.{magnitude_none, magnitude_some}
use Rattle.cloud_lines.proofs.skipping.skip_magnitude.Goals as goal

pub returns-in_err-end : goal.returns-in_err-end
returns-in_err-end c =
    let a = c.args in rw c.from_residual.ensures (magnitude_none a.s.now a.at c.in_err-end.ensures)

pub returns : goal.returns
returns c =
    let a = c.args in magnitude_some a.s.now a.at _ c.in_ok-end.ensures _ c.skip_fraction.ensures
