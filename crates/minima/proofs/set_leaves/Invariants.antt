-- `minima::set_leaves` meets its contract. The loop's invariant: the leaves below g are set, and nothing else changed.
-- Assumes nothing.
use Rattle.minima.proofs.Trees.{Leaves, LeavesOnly}
use Rattle.minima.proofs.set_leaves.Given as goal

abbrev pub invariant-loop-g : goal.invariant-loop-g
invariant-loop-g l = Leaves l.base l.count l.g l.words × LeavesOnly l.base l.count l.initial.words l.words
