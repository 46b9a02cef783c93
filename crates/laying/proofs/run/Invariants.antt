-- `laying::run` meets its contract. Assumes nothing.
use Prim.Native.Nat.{◌-◌, ◌*◌}
use Rattle.laying.proofs.Runs.{Running}
use Rattle.laying.proofs.run.Given as goal

abbrev pub invariant-loop-c : goal.invariant-loop-c
invariant-loop-c l = Running l.p.rule l.p.scene l.p.hash l.points l.p.radius l.initial.c l.initial.w l.initial.faces l.c l.w l.faces

abbrev pub decreases-loop-c : goal.decreases-loop-c
decreases-loop-c l = 3 * l.p.scene.n - l.c.looks
