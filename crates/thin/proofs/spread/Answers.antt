-- `spread` meets its contract.
use Rattle.thin.specs.Inner.Thin.{spread}
use Rattle.thin.proofs.spread.Goals as goal

pub returns : goal.returns
unfolding spread
returns c = cc
