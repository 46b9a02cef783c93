-- `side_of` meets its contract. Assumes nothing.
use Rattle.scores.proofs.side_of.Goals as goal

pub returns : goal.returns
returns c = rw (c.sqrt.ensures, c.distance_squared-square.ensures)
