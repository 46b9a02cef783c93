-- `minima::set_nodes` meets its contract. The loop's invariant: the nodes from k on are right, and nothing else
-- changed. Assumes nothing.
use Rattle.minima.proofs.Trees.{NodesFrom, InnerOnly}
use Rattle.minima.proofs.set_nodes.Given as goal

abbrev pub invariant-loop-k : goal.invariant-loop-k
invariant-loop-k l = NodesFrom l.base l.count l.k l.words × InnerOnly l.base l.count l.initial.words l.words
