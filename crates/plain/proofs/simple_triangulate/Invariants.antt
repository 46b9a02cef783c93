-- `plain::simple_triangulate` meets its contract. The loop's invariant: what is left of the faces leads to all of them.
-- Assumes nothing.
use Rattle.lists.specs.Lists.{up_from}
use lib.ListN.{length}
use Prim.Native.Nat.{◌-◌, ◌/◌, ◌≤◌}
use Rattle.plain.specs.Plain.{plain_faces_from}
use Rattle.plain.proofs.Laid.{Leads}
use Rattle.plain.proofs.Reached.{Tracking}
use Rattle.plain.proofs.simple_triangulate.Given as goal

abbrev pub invariant-loop-i : goal.invariant-loop-i
invariant-loop-i l =
    (l.laid ≤ 10000)
    × Leads (plain_faces_from l.points l.radius (up_from 0 (length l.points / 3))) l.initial.faces 0 (plain_faces_from l.points l.radius (up_from l.i (l.n - l.i))) l.faces l.laid
    × Tracking l.points l.radius l.initial.faces l.n l.i l.faces l.laid l.judged
