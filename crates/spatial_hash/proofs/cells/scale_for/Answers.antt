-- `spatial_hash::cells::scale_for` meets its contract. Assumes nothing.
use mathlib.Core.Path.{sym, subst}
use lib.Dec.{T}
use lib.Ieee.{lt, of_bits}
use Rattle.spatial_hash.proofs.Corners.{bounded_finite}
use Rattle.spatial_hash.proofs.cells.scale_for.Goals as goal

pub returns-then-s-2 : goal.returns-then-s-2
returns-then-s-2 c = (subst T (sym c.if-s.true) tt, bounded_finite _ c.if-s.true c.if-s-2.true)

pub returns-else-s-2 : goal.returns-else-s-2
unfolding lt of_bits
returns-else-s-2 c = (tt, tt)

pub returns-else-s : goal.returns-else-s
unfolding lt of_bits
returns-else-s c = (tt, tt)
