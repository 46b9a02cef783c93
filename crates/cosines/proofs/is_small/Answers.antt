-- `is_small` meets its contract.
use Rattle.cosines.specs.Inner.Cosine.{is_small}
use Rattle.cosines.proofs.is_small.Goals as goal

pub returns-then-t : goal.returns-then-t
unfolding is_small
returns-then-t c = rw c.if-t.true

pub returns-else-t : goal.returns-else-t
unfolding is_small
returns-else-t c = rw c.if-t.false
