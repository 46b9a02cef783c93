-- `spatial_hash::cells::span` meets its contract. Assumes nothing.
use Rattle.spatial_hash.proofs.cells.span.Goals as goal

pub returns : goal.returns
returns c = rw (c.slot-a.ensures, c.slot-b.ensures) at c.span_of.ensures
