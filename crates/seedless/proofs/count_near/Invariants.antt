-- `count_near` meets its contract: at most one is counted in each turn. Assumes nothing.
use Prim.Native.Nat.{◌≤◌}
use Rattle.seedless.proofs.count_near.Given as goal

abbrev pub invariant-loop-m : goal.invariant-loop-m
invariant-loop-m l = l.near ≤ l.m
