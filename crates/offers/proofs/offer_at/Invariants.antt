-- `offers::offer_at` meets its contract. The loop's invariant: the corners from `next` on were passed. Assumes nothing.
use Prim.Native.Nat.{◌+◌, ◌*◌, ◌≤◌}
use Rattle.offers.proofs.Walk.{Walked}
use Rattle.offers.proofs.offer_at.Given as goal

abbrev pub invariant-loop-next : goal.invariant-loop-next
invariant-loop-next l =
    (l.next ≤ 3 * l.count) × (l.met + l.next ≤ 3 * l.count) × Walked l.n l.count l.x l.y l.initial.words l.words l.met l.next

abbrev pub decreases-loop-next : goal.decreases-loop-next
decreases-loop-next l = l.next
