-- `edge_ratio` meets its contract.
use Rattle.quality.specs.Measures.{edge_ratio}
use Rattle.numbers.proofs.Compare.{infinite}
use Rattle.quality.proofs.measure.edge_ratio.Goals as goal

pub returns-then-shortest : goal.returns-then-shortest
unfolding edge_ratio
returns-then-shortest c = rw (← c.least-shortest.ensures, c.if-shortest.true, c.largest.ensures)

pub returns-else-shortest : goal.returns-else-shortest
unfolding edge_ratio
returns-else-shortest c = rw (← c.least-shortest.ensures, c.if-shortest.false) infinite
