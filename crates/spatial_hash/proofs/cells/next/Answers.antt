-- `spatial_hash::cells::next` meets its contract. Assumes nothing.
use mathlib.Core.Path.{sym}
use Rattle.spatial_hash.proofs.Residues.{next_wraps, next_goes}
use Rattle.spatial_hash.proofs.cells.next.Goals as goal

pub returns-then-t-side : goal.returns-then-t-side
returns-then-t-side c = sym (next_wraps _ _ c.if-t-side.true)

pub returns-else-t-side : goal.returns-else-t-side
returns-else-t-side c = sym (next_goes _ _ c.if-t-side.false)
