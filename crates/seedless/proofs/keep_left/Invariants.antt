-- `keep_left` meets its contract. The loop's invariant: those of the first m points that are to be kept stand at the
-- list's start. Assumes nothing.
use Rattle.seedless.proofs.Threes.{Leaving}
use Rattle.seedless.proofs.keep_left.Given as goal

abbrev pub invariant-loop-m : goal.invariant-loop-m
invariant-loop-m l = Leaving l.s l.lo l.i l.initial.w l.w l.found l.kept l.m
