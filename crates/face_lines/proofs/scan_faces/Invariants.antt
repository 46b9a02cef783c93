-- `face_lines::scan_faces` meets its contract: what was found so far and the lines that are left come to the whole. The
-- measure is the bytes left. Assumes nothing.
use Prim.Native.Nat.{◌-◌}
use lib.ListN.{length}
use Rattle.face_lines.proofs.Scanning.{Scanning}
use Rattle.face_lines.proofs.scan_faces.Given as goal

abbrev pub invariant-loop-at : goal.invariant-loop-at
invariant-loop-at l = Scanning l.s l.n l.count l.outside l.twice l.at

abbrev pub decreases-loop-at : goal.decreases-loop-at
decreases-loop-at l = length l.s - l.at
