-- `plain::near::list_candidates` meets its contract. The loop's invariant: what is listed, and what is to come, is all.
-- Assumes nothing.
use Prim.Native.Nat.{◌≤◌}
use mathlib.Core.Path.{◌≡◌}
use mathlib.Core.List.{◌++◌}
use lib.ListN.{take}
use Rattle.lists.specs.Lists.{up_from}
use Rattle.plain.specs.Plain.{candidates}
use Rattle.plain.specs.Inner.Listed.{DistancesListed}
use Rattle.plain.proofs.Plain.{from}
use Rattle.plain.proofs.near.list_candidates.Given as goal

abbrev pub invariant-loop-j : goal.invariant-loop-j
invariant-loop-j l =
    (l.count ≤ l.j) × DistancesListed l.points l.i l.w l.lengths l.count
    × (take l.count l.w ++ from l.points l.radius l.i l.j ≡ candidates l.points l.radius l.i (up_from 0 l.i))
