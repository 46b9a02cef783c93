-- `cloud_lines::skipping::skip_number` meets its contract. Assumes nothing.
use Rattle.cloud_lines.proofs.Bare.{number_skipped}
use Rattle.cloud_lines.proofs.skipping.skip_number.Goals as goal

pub returns : goal.returns
returns c = let a = c.args in number_skipped a.s.now a.at _ _ c.behind_minus.ensures c.skip_magnitude.ensures
