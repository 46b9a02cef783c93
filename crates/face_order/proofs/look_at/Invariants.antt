-- `look_at` meets its contract: what was seen of the first faces is carried on. Assumes nothing.
use Rattle.face_order.proofs.Seen.{Looked}
use Rattle.face_order.proofs.look_at.Given as goal

abbrev pub invariant-loop-i : goal.invariant-loop-i
invariant-loop-i l = Looked l.n l.faces l.i l.outside l.twice
