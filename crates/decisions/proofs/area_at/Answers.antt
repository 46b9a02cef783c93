-- `area_at` meets its contract: the area of three points that are read from the slice. Assumes nothing.
use Rattle.decisions.specs.Found.{area_at}
use Rattle.decisions.proofs.area_at.Goals as goal

pub returns : goal.returns
unfolding area_at
returns c = cc
