-- `yb_compute_triangle_quality` meets its contract.
use Rattle.exports.proofs.yb_compute_triangle_quality.Goals as goal

pub returns : goal.returns
returns c = cc
