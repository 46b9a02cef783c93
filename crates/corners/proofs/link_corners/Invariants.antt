-- `corners::link_corners` meets its contract. The loop's invariant: the corners below s are linked. Assumes nothing.
use Prim.Native.Nat.{◌*◌}
use Rattle.corners.proofs.Chain.{Partly}
use Rattle.corners.proofs.link_corners.Given as goal

abbrev pub invariant-loop-s : goal.invariant-loop-s
invariant-loop-s l = Partly l.n (3 * l.count) l.initial.words l.s l.words
