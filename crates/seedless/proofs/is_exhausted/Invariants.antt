-- `is_exhausted` meets its contract. The loop's invariant: no three unused points of which one is below i make a seed.
-- Assumes nothing.
use Rattle.seedless.proofs.Threes.{Exhausting}
use Rattle.seedless.proofs.is_exhausted.Given as goal

abbrev pub invariant-loop-i : goal.invariant-loop-i
invariant-loop-i l = Exhausting l.p.scene l.points l.p.radius l.p.hash l.initial.w l.w l.i
