-- `is_between` meets its contract.
use Rattle.thin.specs.Inner.Thin.{square_between}
use Rattle.thin.proofs.is_between.Goals as goal

pub returns-then-lo-x : goal.returns-then-lo-x
unfolding square_between
returns-then-lo-x c = rw c.if-lo-x.true

pub returns-else-lo-x : goal.returns-else-lo-x
unfolding square_between
returns-else-lo-x c = rw c.if-lo-x.false
