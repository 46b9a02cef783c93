-- `find_from` meets its contract. The loop's invariant: the points below i have been tried, `left` more unused ones may
-- be, and no three of which one is from lo on and below i make a seed. Assumes nothing.
use Prim.Native.Nat.{◌≤◌}
use Rattle.nearby.specs.Inner.Ready.{used_in_scene}
use Rattle.seed.proofs.State.{Seeking}
use Rattle.seedless.specs.Inner.Seedless.{SeedlessBetween}
use Rattle.seed.proofs.triples.find_from.Given as goal

abbrev pub invariant-loop-i : goal.invariant-loop-i
invariant-loop-i l =
    Seeking l.p.scene l.points l.p.radius l.p.hash l.initial.w l.w l.left l.i × (l.lo ≤ l.i) × SeedlessBetween l.p.scene l.points l.p.radius (used_in_scene l.p.scene l.initial.w) l.lo l.i
