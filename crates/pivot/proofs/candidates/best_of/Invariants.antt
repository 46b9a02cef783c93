-- `best_of` meets its contract. The loop's invariant: the best of all candidates is the best of those from m on, given
-- the best so far. Assumes nothing.
use Rattle.scores.specs.Inner.Over.{Thinned}
use Rattle.pivot.proofs.Steps.{Best}
use Rattle.pivot.proofs.candidates.best_of.Given as goal

abbrev pub invariant-loop-m : goal.invariant-loop-m
invariant-loop-m l = Best l.s l.points l.radius l.over.filter l.w l.count l.a l.b l.top l.best l.m × Thinned l.top l.thin
