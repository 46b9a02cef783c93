-- `ordering::place_all` meets its contract. The loop's invariant: for any faces that the words tell, the greedy order
-- so far. Assumes nothing.
use Rattle.ordering.proofs.Running.{Runs}
use Rattle.corners.specs.Corners.{Bound}
use Prim.Native.Nat.{◌*◌, ◌≤◌}
use Rattle.ordering.proofs.place_all.Given as goal

abbrev pub invariant-loop-k : goal.invariant-loop-k
invariant-loop-k l = (l.seeds ≤ l.k) × Bound l.n (3 * l.count) l.words × Runs l.n l.count l.initial.words l.k l.seeds l.words
