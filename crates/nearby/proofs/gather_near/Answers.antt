-- `gather_near` meets its contract. Assumes nothing.
use Rattle.nearby.proofs.Narrowing.{collected}
use Rattle.nearby.proofs.gather_near.Goals as goal

pub returns : goal.returns
returns c = collected c.requires.0 c.gather_within.ensures
