-- `apart_at` meets its contract: the distance of two points that are read from the slice. Assumes nothing.
use Rattle.decisions.specs.Decisions.{apart}
use Rattle.decisions.proofs.apart_at.Goals as goal

pub returns : goal.returns
unfolding apart
returns c = cc
