-- The loop's invariant: k faces are turned, whatever the origins that the sides are told of. Assumes nothing.
use Prim.Native.Nat.{ℕ}
use mathlib.Core.List.{List}
use Rattle.looks.specs.Inner.Looks.{parent_in, HasSides}
use Rattle.looks.proofs.Turns.{Turning}
use Rattle.looks.proofs.turn_told.Given as goal

abbrev pub invariant-loop-k : goal.invariant-loop-k
invariant-loop-k l = (origins : List ℕ) → HasSides origins l.sides l.n → Turning (parent_in origins) l.initial.faces l.n l.faces l.k
