-- `spatial_hash::cells::slot` meets its contract. Assumes nothing.
use Rattle.spatial_hash.specs.Inner.Buckets.{slot}
use Rattle.spatial_hash.proofs.cells.slot.Goals as goal

pub returns : goal.returns
unfolding slot
returns c = c.cut.ensures
