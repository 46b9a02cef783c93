-- `search_beside` meets its contract. The loop's invariant: no point before the m-th makes a seed with points i and j,
-- whichever comes first. Assumes nothing.
use Prim.Native.Nat.{ℕ, ◌≤◌, ◌<◌}
use Rattle.nearby.specs.Inner.Ready.{nth}
use Rattle.three_points.specs.Inner.Judged.{Seedless}
use Rattle.seedless_pairs.proofs.search_beside.Given as goal

abbrev pub invariant-loop-m : goal.invariant-loop-m
invariant-loop-m l = (x : ℕ) → x < l.m → l.from ≤ x → Seedless l.s l.points l.radius l.i l.j (nth l.s l.w x)
