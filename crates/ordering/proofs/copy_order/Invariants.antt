-- `copy_order` meets its contract. The loop's invariant: the first j entries are the order's, the rest as lent. Assumes nothing.
use Rattle.std.proofs.Common.{◌≡◌, ◌++◌, take, drop}
use Rattle.regions.specs.Inner.Ordering.{placed_at}
use Rattle.ordering.proofs.copy_order.Given as goal

abbrev pub invariant-loop-j : goal.invariant-loop-j
invariant-loop-j l = l.order ≡ take l.j (drop (placed_at l.n) l.words) ++ drop l.j l.initial.order
