-- `is_short` meets its contract.
use Rattle.cosines.specs.Inner.Cosine.{is_short}
use Rattle.cosines.proofs.is_short.Goals as goal

pub returns-then-bh-al : goal.returns-then-bh-al
unfolding is_short
returns-then-bh-al c = rw c.if-bh-al.true

pub returns-else-bh-al : goal.returns-else-bh-al
unfolding is_short
returns-else-bh-al c = rw c.if-bh-al.false
