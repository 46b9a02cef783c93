-- `narrow` meets its contract. The loop's invariant: what is left of the list leads to the whole. Assumes nothing.
use Rattle.nearby.proofs.Narrowing.{Narrowing}
use Rattle.nearby.proofs.narrow.Given as goal

abbrev pub invariant-loop-m : goal.invariant-loop-m
invariant-loop-m l = Narrowing l.s l.points l.f l.initial.w l.w l.found l.kept l.m
