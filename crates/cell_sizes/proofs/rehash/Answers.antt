-- `rehash` meets its contract. Assumes nothing.
use Rattle.cell_sizes.proofs.Anew.{searchable_anew}
use Rattle.cell_sizes.proofs.rehash.Goals as goal

pub returns-in-Some : goal.returns-in-Some
returns-in-Some c = searchable_anew c.requires c.build.ensures
