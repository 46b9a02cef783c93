-- `least_angle` meets its contract. Assumes nothing.
use Rattle.box_filters.proofs.Needles.{second_within, third_within}
use Rattle.box_filters.proofs.least_angle.Goals as goal

pub returns-then-e-2 : goal.returns-then-e-2
returns-then-e-2 c = c.needle_angle.ensures

pub returns-then-e : goal.returns-then-e
returns-then-e c = third_within c.needle_angle-then-e.ensures

pub returns-then-e-3 : goal.returns-then-e-3
returns-then-e-3 c = second_within c.needle_angle-then-e-3.ensures

pub returns : goal.returns
returns c = third_within c.needle_angle-2.ensures
