-- `is_low` meets its contract.
use Rattle.six_orders.proofs.Scores.{second_below, third_below}
use Rattle.six_orders.proofs.is_low.Goals as goal

pub returns-then-a-b : goal.returns-then-a-b
returns-then-a-b c = λ h. third_below (c.is_low_by-then-a-b.ensures h)

pub returns-then-b-c : goal.returns-then-b-c
returns-then-b-c c = λ h. second_below (c.is_low_by-then-b-c.ensures h)

pub returns : goal.returns
returns c = λ h. third_below (c.is_low_by-2.ensures h)
