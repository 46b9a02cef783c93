-- `spatial_hash::links::link_points` meets its contract. Assumes nothing.
use Rattle.spatial_hash.proofs.Heads.{Linking}
use Rattle.spatial_hash.proofs.links.link_points.Given as goal

abbrev pub invariant-loop-j : goal.invariant-loop-j
invariant-loop-j l = Linking l.hash l.points l.n l.initial.w l.w l.j
