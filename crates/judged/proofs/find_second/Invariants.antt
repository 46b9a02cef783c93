-- `find_second` meets its contract. The loop's invariant: what is among all listed points is among those from m on.
-- Assumes nothing.
use Rattle.nearby.specs.Inner.Ready.{neighbors_listed}
use Rattle.judged.specs.Inner.Triples.{has_third}
use Rattle.judged.proofs.Triples.{Seeking}
use Rattle.judged.proofs.find_second.Given as goal

abbrev pub invariant-loop-m : goal.invariant-loop-m
invariant-loop-m l = Seeking (has_third l.s l.points l.radius (neighbors_listed l.s l.w l.count) l.i) l.s l.w l.count l.m
