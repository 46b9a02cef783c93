-- `is_close` meets its contract. Assumes nothing.
use Rattle.decisions.specs.Decisions.{is_close}
use Rattle.decisions.proofs.is_close.Goals as goal

pub returns : goal.returns
unfolding is_close
returns c = cc
