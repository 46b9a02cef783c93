-- `is_before` meets its contract. Assumes nothing.
use Rattle.pivot.proofs.candidates.is_before.Goals as goal

pub comes_first-requires : goal.comes_first-requires
comes_first-requires c = (c.requires.1, c.requires.0 _ c.in-Some.is, c.requires.2, c.requires.3)

pub returns-in-Some : goal.returns-in-Some
returns-in-Some c = rw c.in-Some.is c.comes_first.ensures

pub returns-in-None : goal.returns-in-None
returns-in-None c = rw c.in-None.is
