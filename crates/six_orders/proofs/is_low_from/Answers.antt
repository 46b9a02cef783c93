-- `is_low_from` meets its contract. Assumes nothing.
use Rattle.numbers.specs.Rounded.{f32}
use Rattle.numbers.proofs.OrderLaws.{le_left}
use Rattle.six_orders.proofs.Scores.{all_below_from}
use Rattle.six_orders.proofs.is_low_from.Goals as goal

pub returns : goal.returns
returns c =
    let t = c.in-Some.ensures in
    λ h.
    all_below_from t.above t.edges t.from (le_left c.in-Some.aspect (f32 0x40800000) t.small) c.edge_from.ensures
    (rw (← c.score.ensures, h) tt)
