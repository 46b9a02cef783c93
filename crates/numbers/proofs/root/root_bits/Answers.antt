-- `root_bits` meets its contract: the pattern that `root_of` gives is that of the root.
use Rattle.numbers.proofs.RootUnits.{root_pattern}
use Rattle.numbers.proofs.root.root_bits.Goals as goal

pub returns : goal.returns
returns c = let e = c.read_bits-x.ensures in root_pattern _ _ _ _ e.0 e.1 e.2 e.3 c.root_of.ensures
