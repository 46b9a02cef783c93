-- `cross_squared` meets its contract.
use Rattle.area_bounds.specs.Inner.AreaBound.{cross_squared}
use Rattle.area_bounds.proofs.cross_squared.Goals as goal

pub returns : goal.returns
unfolding cross_squared
returns c = cc
