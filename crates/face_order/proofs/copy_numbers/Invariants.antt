-- `copy_numbers` meets its contract. The loop's invariant: the first k numbers are copied, the rest is as lent. Assumes nothing.
use Rattle.std.proofs.Common.{◌≡◌, ◌++◌, take, drop}
use Rattle.face_order.proofs.copy_numbers.Given as goal

abbrev pub invariant-loop-k : goal.invariant-loop-k
invariant-loop-k l = l.words ≡ take l.k l.faces ++ drop l.k l.initial.words
