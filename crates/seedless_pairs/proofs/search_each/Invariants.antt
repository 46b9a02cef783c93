-- `search_each` meets its contract. The loop's invariant: no point before the m-th makes a seed with point i and a
-- later one of the other range. Assumes nothing.
use Prim.Native.Nat.{ℕ, ◌≤◌, ◌<◌}
use Rattle.nearby.specs.Inner.Ready.{nth}
use Rattle.three_points.specs.Inner.Judged.{Seedless}
use Rattle.seedless_pairs.proofs.search_each.Given as goal

abbrev pub invariant-loop-m : goal.invariant-loop-m
invariant-loop-m l =
    (x : ℕ) → x < l.m → l.fn.first.from ≤ x
    → (k : ℕ) → l.fn.second.from ≤ k → k < l.fn.second.to → x < k → Seedless l.s l.points l.radius l.i (nth l.s l.w x) (nth l.s l.w k)
