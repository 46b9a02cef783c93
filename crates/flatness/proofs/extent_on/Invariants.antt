-- `extent_on` meets its contract. The loop's invariant: the points so far lie between the least and the largest
-- coordinate. Assumes nothing.
use Rattle.flatness.proofs.Extents.{Reaching}
use Rattle.flatness.proofs.extent_on.Given as goal

abbrev pub invariant-loop-i : goal.invariant-loop-i
invariant-loop-i l = Reaching l.points l.first l.n l.lo l.hi l.i
