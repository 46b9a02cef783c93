-- `is_too_small` meets its contract. Assumes nothing.
use Rattle.flatness.specs.Inner.Flat.{too_small}
use Rattle.flatness.proofs.is_too_small.Goals as goal

pub returns-then-most-s : goal.returns-then-most-s
unfolding too_small
returns-then-most-s c = rw (← c.area_bound-most.ensures, c.if-most-s.true)

pub returns-else-most-s : goal.returns-else-most-s
unfolding too_small
returns-else-most-s c = rw (← c.area_bound-most.ensures, c.if-most-s.false)
