-- `plain::faces_among` meets its contract. The loop's invariant: what is left of the faces leads to all of them.
-- Assumes nothing.
use Prim.Native.Nat.{◌≤◌}
use lib.ListN.{take, drop}
use Rattle.plain.specs.Plain.{faces_at}
use Rattle.plain.proofs.Laid.{Leads}
use Rattle.plain.proofs.faces_among.Given as goal

abbrev pub invariant-loop-at : goal.invariant-loop-at
invariant-loop-at l =
    (l.laid ≤ 10000)
    × Leads (faces_at l.points l.radius l.i (take l.listed l.w)) l.initial.faces l.count (faces_at l.points l.radius l.i (drop l.at (take l.listed l.w))) l.faces l.laid
