use Rattle.looks.specs.Inner.Looks.{SidesWritten}
use Rattle.looks.proofs.tell_sides.Given as goal

abbrev pub invariant-loop-face : goal.invariant-loop-face
invariant-loop-face l = SidesWritten l.origins l.initial.sides l.sides l.face
