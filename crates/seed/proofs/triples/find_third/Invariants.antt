-- `find_third` meets its contract. The loop's invariant: what is found among all neighbours is found among those from m
-- on. Assumes nothing.
use Rattle.seed.proofs.Steps.{Third}
use Rattle.seed.proofs.triples.find_third.Given as goal

abbrev pub invariant-loop-m : goal.invariant-loop-m
invariant-loop-m l = Third l.p.scene l.points l.p.radius l.w l.count l.i l.j l.m
