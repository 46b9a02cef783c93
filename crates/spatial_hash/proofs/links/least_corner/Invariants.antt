-- `spatial_hash::links::least_corner` meets its contract. Assumes nothing.
use Rattle.vector.specs.Inner.Numbers.{Finite}
use Rattle.spatial_hash.proofs.links.least_corner.Given as goal

abbrev pub invariant-loop-i : goal.invariant-loop-i
invariant-loop-i l = Finite l.least
