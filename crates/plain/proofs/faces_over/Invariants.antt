-- `plain::faces_over` meets its contract. The loop's invariant: what is left of the faces over a leads to all of them.
-- Assumes nothing.
use Prim.Native.Nat.{◌+◌, ◌≤◌}
use lib.ListN.{take, drop, get_or}
use Rattle.plain.specs.Plain.{faces_over}
use Rattle.plain.proofs.Laid.{Leads}
use Rattle.plain.proofs.faces_over.Given as goal

abbrev pub invariant-loop-k : goal.invariant-loop-k
invariant-loop-k l =
    (l.laid ≤ 10000)
    × Leads (faces_over l.points l.radius l.i (get_or l.w l.at 0) (drop (l.at + 1) (take l.listed l.w))) l.initial.faces l.count
    (faces_over l.points l.radius l.i (get_or l.w l.at 0) (drop l.k (take l.listed l.w))) l.faces l.laid
