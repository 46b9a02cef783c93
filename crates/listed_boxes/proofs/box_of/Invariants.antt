-- `box_of` meets its contract. The loop's invariant: the box has the points before the m-th place. Assumes nothing.
use Rattle.listed_boxes.specs.Inner.Boxes.{RangeBoxed}
use Rattle.listed_boxes.proofs.box_of.Given as goal

abbrev pub invariant-loop-m : goal.invariant-loop-m
invariant-loop-m l = RangeBoxed l.points l.list l.from l.m l.b
