-- `angle_bound` meets its contract.
use Rattle.numbers.proofs.RootSpecial.{no_number}
use Rattle.six_orders.proofs.Angles.{no_angle_bound, angles_bounded}
use Rattle.six_orders.proofs.angle_bound.Goals as goal

pub returns-then-not-is_same : goal.returns-then-not-is_same
returns-then-not-is_same c = rw no_number (no_angle_bound _ _ _)

pub returns-then-not-are_numbers : goal.returns-then-not-are_numbers
returns-then-not-are_numbers c = rw no_number (no_angle_bound _ _ _)

pub returns : goal.returns
returns c =
    let a = c.args in
    let same = c.is_same in
    let n = c.are_numbers in
    let k = n.ensures (c.if-not-are_numbers.false) in
    rw (c.max-2.ensures, c.max.ensures)
    (angles_bounded a.a a.b a.c
    (same.ensures (c.if-not-is_same.false))
    c.angle-x.ensures
    c.angle-y.ensures
    c.angle-z.ensures k.0 k.1 k.2 c.least-forward.ensures
    c.least-backward.ensures)
