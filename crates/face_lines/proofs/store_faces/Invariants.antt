-- `face_lines::store_faces` meets its contract: the faces that stand in the slice and those left are all; a malformed
-- line is never met. The measure is the bytes left. Assumes nothing.
use Prim.Native.Nat.{◌-◌}
use mathlib.Core.Path.{◌≡◌}
use lib.ListN.{length}
use Rattle.face_lines.specs.Inner.Answers.{Readable}
use Rattle.face_lines.proofs.Storing.{Storing}
use Rattle.face_lines.proofs.store_faces.Given as goal

abbrev pub invariant-loop-at : goal.invariant-loop-at
invariant-loop-at l = (length l.words ≡ length l.initial.words) × ((r : Readable l.s) → Storing l.s l.initial.words r l.words l.count l.at)

abbrev pub decreases-loop-at : goal.decreases-loop-at
decreases-loop-at l = length l.s - l.at
