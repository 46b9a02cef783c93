-- `is_low_by` meets its contract.
use Rattle.numbers.specs.Rounded.{f32}
use Rattle.numbers.proofs.OrderLaws.{le_left}
use Rattle.six_orders.proofs.Aspects.{as_long}
use Rattle.six_orders.proofs.Scores.{all_below_lem}
use Rattle.six_orders.proofs.is_low_by.Goals as goal

pub edge_bound-requires : goal.edge_bound-requires
edge_bound-requires c = c.in-Some.ensures.edges

pub returns : goal.returns
returns c =
    let a = c.args in
    let t = c.in-Some.ensures in
    λ h.
    all_below_lem a.a a.b a.c c.angle_bound.result c.in-Some.aspect c.edge_bound.result a.area a.threshold t.above c.angle_bound.ensures
    (t.from.longer a.a a.b a.c (as_long a.a t.edges.0) (as_long a.b t.edges.1) (as_long a.c t.edges.2))
    (le_left c.in-Some.aspect (f32 0x40800000) t.small) c.edge_bound.ensures
    (rw (← c.score.ensures, h) tt)
