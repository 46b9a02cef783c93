-- `find_third` meets its contract. The loop's invariant: what is among all listed points is among those from m on.
-- Assumes nothing.
use Rattle.judged.specs.Inner.Triples.{is_beside_both}
use Rattle.judged.proofs.Triples.{Seeking}
use Rattle.judged.proofs.find_third.Given as goal

abbrev pub invariant-loop-m : goal.invariant-loop-m
invariant-loop-m l = Seeking (is_beside_both l.s l.points l.radius l.i l.j) l.s l.w l.count l.m
