-- `spatial_hash::links::link_point` meets its contract. Assumes nothing.
use native.Mathlib.Omega.{arith}
use lib.ListN.{length-set}
use Rattle.spatial_hash.proofs.links.link_point.Goals as goal

pub bounds-w-n-3 : goal.bounds-w-n-3
bounds-w-n-3 c = simp length-set (omega arith)
