-- `is_between` meets its contract. Assumes nothing.
use Rattle.long_edges.specs.Inner.LongEdges.{edge_between}
use Rattle.long_edges.proofs.is_between.Goals as goal

pub returns-then-lo-x : goal.returns-then-lo-x
unfolding edge_between
returns-then-lo-x c = rw c.if-lo-x.true

pub returns-else-lo-x : goal.returns-else-lo-x
unfolding edge_between
returns-else-lo-x c = rw c.if-lo-x.false
