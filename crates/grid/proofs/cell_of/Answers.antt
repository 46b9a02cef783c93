-- `grid::cell_of` meets its contract. Assumes nothing.
use Rattle.grid.specs.Grid.{cell_of}
use Rattle.grid.proofs.cell_of.Goals as goal

pub returns : goal.returns
unfolding cell_of
returns c = cc
