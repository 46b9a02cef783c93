use Prim.Native.Nat.{◌-◌}
use Rattle.index_search.proofs.Widths.{Grown}
use Rattle.index_search.proofs.width_of.Reads as reads
use Rattle.index_search.proofs.width_of.Lts as lts
use Rattle.index_search.proofs.width_of.Given as goal

abbrev pub invariant-loop-width : goal.invariant-loop-width
invariant-loop-width l = Grown l.n l.width

abbrev pub decreases-loop-width : goal.decreases-loop-width
decreases-loop-width l = l.n - l.width
