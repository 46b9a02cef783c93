-- What is in hand, with the points to come, is always the whole least square. Assumes nothing.
use Prim.Native.Nat.{◌*◌}
use mathlib.Core.Path.{◌≡◌}
use mathlib.Core.Bool.{false}
use lib.ListN.{take, drop}
use lib.Ieee.{inf}
use Rattle.estimate.specs.Inner.Squares.{least_square}
use Rattle.estimate.proofs.nearest.least_square.Given as goal

abbrev pub invariant-loop-k : goal.invariant-loop-k
invariant-loop-k l =
    least_square l.points l.i (inf false) (take l.found (drop (4 * l.n) l.w)) ≡ least_square l.points l.i l.s (drop l.k (take l.found (drop (4 * l.n) l.w)))
