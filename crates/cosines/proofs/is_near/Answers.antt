-- `is_near` meets its contract.
use Rattle.cosines.specs.Inner.Cosine.{is_comparable}
use Rattle.cosines.proofs.is_near.Goals as goal

pub returns-then-ah-times : goal.returns-then-ah-times
unfolding is_comparable
returns-then-ah-times c = rw c.if-ah-times.true

pub returns-else-ah-times : goal.returns-else-ah-times
unfolding is_comparable
returns-else-ah-times c = rw c.if-ah-times.false
