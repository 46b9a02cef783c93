-- `area_of` meets its contract.
use Rattle.triangle.specs.Quality.{area}
use Rattle.triangle.proofs.area_of.Goals as goal

pub returns : goal.returns
unfolding area
returns c = cc
