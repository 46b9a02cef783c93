-- `is_any_judged` meets its contract. The loop's invariant: no triple is judged in which a point below i comes first.
-- Assumes nothing.
use Rattle.judged.proofs.Triples.{Asked}
use Rattle.judged.proofs.is_any_judged.Given as goal

abbrev pub invariant-loop-i : goal.invariant-loop-i
invariant-loop-i l = Asked l.s l.hash l.points l.radius l.initial.w l.w l.i
