-- `is_plain` meets its contract.
use Rattle.cosines.specs.Inner.Cosine.{is_plain_pair}
use Rattle.cosines.proofs.is_plain.Goals as goal

pub returns-then-lo : goal.returns-then-lo
unfolding is_plain_pair
returns-then-lo c = rw c.if-lo.true

pub returns-else-lo : goal.returns-else-lo
unfolding is_plain_pair
returns-else-lo c = rw c.if-lo.false
