-- `has_third` meets its contract. Assumes nothing.
use mathlib.Core.Path.{sym}
use Rattle.judged.specs.Inner.Triples.{has_third}
use Rattle.judged.proofs.has_third.Goals as goal

pub returns-then-is_beside : goal.returns-then-is_beside
unfolding has_third
returns-then-is_beside c = rw (sym c.is_beside.ensures, c.if-is_beside.true) c.find_third.ensures

pub returns-else-is_beside : goal.returns-else-is_beside
unfolding has_third
returns-else-is_beside c = rw (sym c.is_beside.ensures, c.if-is_beside.false)
