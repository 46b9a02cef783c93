-- `listing::rows::put_faces` meets its contract: the lines of the first i faces were put. Assumes nothing.
use Prim.Native.Nat.{◌+◌, ◌*◌, ◌≤◌}
use Rattle.listing.proofs.Faces.{Rows}
use Rattle.listing.proofs.rows.put_faces.Given as goal

abbrev pub invariant-loop-i : goal.invariant-loop-i
invariant-loop-i l = (l.next ≤ l.at + 84 * l.i) × Rows l.faces l.n l.initial.out l.out l.at l.i l.next
