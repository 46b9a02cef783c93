-- `area_bound` meets its contract.
use Rattle.area_bounds.specs.Inner.AreaBound.{area_bound}
use Rattle.area_bounds.proofs.area_bound.Goals as goal

pub returns : goal.returns
unfolding area_bound
returns c = cc
