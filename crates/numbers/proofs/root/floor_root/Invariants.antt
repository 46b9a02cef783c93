-- `floor_root` meets its contract: the root lies from lo on and below hi, and each turn halves what is between.
use Prim.Native.Nat.{◌-◌, ◌*◌, ◌≤◌, ◌<◌}
use Rattle.numbers.proofs.root.floor_root.Given as goal

abbrev pub invariant-loop-lo : goal.invariant-loop-lo
invariant-loop-lo l = (l.lo * l.lo ≤ l.n) × (l.n < l.hi * l.hi) × (l.lo < l.hi) × (l.hi ≤ 16777216)

abbrev pub decreases-loop-lo : goal.decreases-loop-lo
decreases-loop-lo l = l.hi - l.lo
