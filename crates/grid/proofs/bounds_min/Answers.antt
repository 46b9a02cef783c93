-- `grid::bounds_min` meets its contract. Assumes nothing.
use Rattle.grid.specs.Grid.{bounds_min}
use Rattle.grid.proofs.bounds_min.Goals as goal

pub returns : goal.returns
unfolding bounds_min
returns c = cc
