-- `is_sparse` meets its contract. Assumes nothing.
use mathlib.Core.Path.{◌≡◌}
use lib.ListN.{length}
use Rattle.laying.specs.Inner.Laying.{AllSearchable}
use Rattle.cell_sizes.proofs.is_sparse.Given as goal

abbrev pub invariant-loop-i : goal.invariant-loop-i
invariant-loop-i l = AllSearchable l.scene l.hash l.points l.words × (length l.words ≡ length l.initial.words)
