-- The loop's invariant: k faces are traced, and what is left leads to the whole. Assumes nothing.
use lib.ListN.{take}
use Rattle.tracing.proofs.Laws.{Tracing}
use Rattle.tracing.proofs.write_origins.Given as goal

abbrev pub invariant-loop-k : goal.invariant-loop-k
invariant-loop-k l = Tracing (take l.radii l.marks) l.faces l.count l.initial.words l.initial.origins l.words l.origins l.k
