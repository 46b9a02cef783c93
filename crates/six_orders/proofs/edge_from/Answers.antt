-- `edge_from` meets its contract. Assumes nothing.
use Rattle.numbers.proofs.RootSpecial.{no_number}
use Rattle.six_orders.proofs.Edges.{edges_from, no_edge_from}
use Rattle.six_orders.proofs.edge_from.Goals as goal

pub returns-then-is_positive-2 : goal.returns-then-is_positive-2
returns-then-is_positive-2 c =
    let m = c in
    let a = m.args in
    let e = m.max-2.ensures in
    let f = m.max.ensures in
    rw (e, f) (edges_from a.a a.b a.c a.s (c.is_positive.ensures c.if-is_positive.true)
    (rw (← f, ← e) (c.is_positive-then-is_positive.ensures c.if-is_positive-2.true)))

pub returns : goal.returns
returns c = rw no_number (no_edge_from _ _ _ _)
