-- `edges_of` meets its contract. Assumes nothing.
use Rattle.box_filters.proofs.edges_of.Goals as goal

pub returns : goal.returns
returns c =
    let b = c in
    let a = b in
    record {
      pq_held = rw (← a.differences.ensures) a.magnitudes-pq.ensures;
      pt_held = rw (← b.differences-2.ensures) b.magnitudes-pt.ensures;
      qt_held = rw (← c.differences-3.ensures) c.magnitudes-qt.ensures;
    }
