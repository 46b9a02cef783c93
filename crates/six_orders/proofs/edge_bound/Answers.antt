-- `edge_bound` meets its contract.
use Rattle.numbers.proofs.RootSpecial.{no_number}
use Rattle.six_orders.proofs.Edges.{no_edge_bound, edges_bounded}
use Rattle.six_orders.proofs.edge_bound.Goals as goal

pub returns-then-is_positive : goal.returns-then-is_positive
returns-then-is_positive c =
    let a = c.args in
    let p = c.requires in
    let e = c.max.ensures in
    rw e (edges_bounded a.a a.b a.c p.0 p.1 p.2 (rw (← e) (c.is_positive.ensures c.if-is_positive.true)))

pub returns : goal.returns
returns c = rw no_number (no_edge_bound _ _ _)
