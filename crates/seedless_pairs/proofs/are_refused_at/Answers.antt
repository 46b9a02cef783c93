-- `are_refused_at` meets its contract: both ranges are of the list. Assumes nothing.
use native.Mathlib.Omega.{arith}
use Rattle.seedless_pairs.proofs.Halves.{listed_fewer}
use Rattle.seedless_pairs.proofs.are_refused_at.Goals as goal

pub range_of-first-requires : goal.range_of-first-requires
range_of-first-requires c = let g = c.requires in (g.0, omega arith, listed_fewer _ g.3 g.1)

pub range_of-second-requires : goal.range_of-second-requires
range_of-second-requires c = let g = c.requires in (g.0, omega arith, listed_fewer _ g.4 g.1)
