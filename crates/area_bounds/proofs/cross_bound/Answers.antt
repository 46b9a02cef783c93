-- `cross_bound` meets its contract.
use Rattle.area_bounds.specs.Inner.AreaBound.{cross_bound}
use Rattle.area_bounds.proofs.cross_bound.Goals as goal

pub returns : goal.returns
unfolding cross_bound
returns c = cc
