-- `spatial_hash::leave::is_out` meets its contract. Assumes nothing.
use lib.Seq.{get_or-drop}
use Rattle.spatial_hash.specs.Inner.Buckets.{is_out}
use Rattle.spatial_hash.proofs.links.is_out.Goals as goal

pub returns : goal.returns
unfolding is_out
returns c = rw get_or-drop
