use Rattle.kd_tree.specs.Boxes.{plus_zero}
use Rattle.kd_tree.proofs.plus_zero.Goals as goal

pub returns-then-x : goal.returns-then-x
unfolding plus_zero
returns-then-x c = rw c.if-x.true

pub returns : goal.returns
unfolding plus_zero
returns c = rw c.if-x.false
