-- `verdict::stretch` meets its contract. Assumes nothing.
use Rattle.verdict.proofs.stretch.Goals as goal

pub returns : goal.returns
returns c = cc
