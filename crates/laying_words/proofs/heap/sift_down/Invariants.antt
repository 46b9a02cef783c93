-- `sift_down` meets its contract. The loop's invariant (`Sifting`): what is left of the definition's way down from
-- place p, with v to be put, gives the whole heap. The place grows, so it ends. Assumes nothing.
use Prim.Native.Nat.{◌-◌, ◌≤◌, ◌<◌}
use mathlib.Core.Path.{◌≡◌}
use lib.ListN.{length}
use Rattle.laying_words.proofs.Sifting.{Sifting}
use Rattle.laying_words.proofs.heap.sift_down.Given as goal

abbrev pub invariant-loop-p : goal.invariant-loop-p
invariant-loop-p l = (length l.w ≡ length l.initial.w) × (l.p < l.m) × (l.m ≤ length l.w) × Sifting l.initial.w l.m l.v l.w l.p

abbrev pub decreases-loop-p : goal.decreases-loop-p
decreases-loop-p l = l.m - l.p
