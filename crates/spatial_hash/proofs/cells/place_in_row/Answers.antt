-- `spatial_hash::cells::place_in_row` meets its contract. Assumes nothing.
use Rattle.spatial_hash.specs.Inner.Buckets.{place_for}
use Rattle.spatial_hash.proofs.cells.place_in_row.Goals as goal

pub returns : goal.returns
unfolding place_for
returns c = c.residue.ensures
