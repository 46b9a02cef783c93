-- `find_second` meets its contract. The loop's invariant: what is found among the neighbours asked for is found among
-- those from m on. Assumes nothing.
use Rattle.seed.proofs.Steps.{Second}
use Rattle.seed.proofs.triples.find_second.Given as goal

abbrev pub invariant-loop-m : goal.invariant-loop-m
invariant-loop-m l = Second l.p.scene l.points l.p.radius l.w l.count l.i l.from l.to l.m
