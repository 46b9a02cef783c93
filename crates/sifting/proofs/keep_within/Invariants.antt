-- `keep_within` meets its contract. The loop's invariant: what is left of the list leads to the whole. Assumes nothing.
use Rattle.sifting.proofs.Sifting.{Sifting}
use Rattle.sifting.proofs.keep_within.Given as goal

abbrev pub invariant-loop-m : goal.invariant-loop-m
invariant-loop-m l = Sifting l.points l.n l.place l.limit l.initial.w l.w l.found l.kept l.m
