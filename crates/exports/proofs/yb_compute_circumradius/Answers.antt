-- `yb_compute_circumradius` meets its contract.
use Rattle.exports.proofs.yb_compute_circumradius.Goals as goal

pub returns : goal.returns
returns c = cc
