-- `minima::renew` meets its contract. The loop's invariant: only the node that comes next may be wrong, and no word but
-- nodes changed. Assumes nothing.
use Rattle.minima.proofs.Trees.{AllBut, InnerOnly}
use lib.ListN.{get_or}
use mathlib.Core.Path.{◌≡◌}
use Prim.Native.Nat.{◌+◌, ◌*◌, ◌/◌, ◌≤◌, ◌<◌}
use Rattle.minima.proofs.renew.Given as goal

abbrev pub invariant-loop-k : goal.invariant-loop-k
invariant-loop-k l =
    (l.k < 2 * l.count) × (1 ≤ l.k) × (l.v ≡ get_or l.words (l.base + l.k) 0)
    × (AllBut l.base l.count (l.initial.k / 2) l.initial.words → AllBut l.base l.count (l.k / 2) l.words) × InnerOnly l.base l.count l.initial.words l.words

abbrev pub decreases-loop-k : goal.decreases-loop-k
decreases-loop-k l = l.k
