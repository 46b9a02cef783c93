-- `filter_of` meets its contract. Assumes nothing.
use borrow.Author.Rules.{rules}
use Rattle.grid.specs.Grid.{range_of}
use Rattle.nearby.proofs.filter_of.Goals as goal

pub returns : goal.returns
unfolding range_of
returns c = search rules
