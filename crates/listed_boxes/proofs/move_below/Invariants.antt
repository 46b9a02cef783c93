-- `move_below` meets its contract: in each turn two words change places. Assumes nothing.
use Rattle.listed_boxes.proofs.Words.{Moving}
use Rattle.listed_boxes.proofs.move_below.Given as goal

abbrev pub invariant-loop-m : goal.invariant-loop-m
invariant-loop-m l = Moving l.initial.list l.list l.kept l.m
