-- `laying::advanced_ball_pivoting` meets its contract. The loop's invariant: the first i radii have been laid, no
-- radius up to `upto` has a seed, and the first i marks are set. Assumes nothing.
use Rattle.nearby.specs.Inner.Ready.{used_in_scene}
use Rattle.known_radii.specs.Inner.Known.{NothingTo}
use Rattle.laying.proofs.Radii.{Covering}
use Rattle.laying.proofs.Marks.{Marking}
use Rattle.laying.proofs.advanced_ball_pivoting.Given as goal

abbrev pub invariant-loop-i : goal.invariant-loop-i
invariant-loop-i l =
    Covering l.rule l.s l.hash l.points l.radii l.count l.initial.faces l.initial.w l.i l.c l.w l.faces × NothingTo l.s l.points (used_in_scene l.s l.w) l.upto × Marking l.rule l.s l.points l.radii l.i l.marks
