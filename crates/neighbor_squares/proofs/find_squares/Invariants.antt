-- A look that finds ten squares decides, and so does the last one. Assumes nothing.
use mathlib.Core.Path.{◌≡◌}
use lib.ListN.{length}
use Rattle.neighbor_squares.specs.Inner.Squares.{SquaresKept}
use Rattle.neighbor_squares.proofs.find_squares.Given as goal

abbrev pub invariant-loop-look : goal.invariant-loop-look
invariant-loop-look l =
    (length l.w ≡ length l.initial.w) × (length l.f ≡ length l.initial.f) × SquaresKept l.n l.initial.w l.w l.initial.f l.f
