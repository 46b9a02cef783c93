-- `search_ranges` meets its contract. What falls is how many points the two ranges have together. Assumes nothing.
use Prim.Native.Nat.{◌+◌, ◌-◌}
use Rattle.seedless_pairs.proofs.+search_ranges.Given as goal

abbrev pub decreases-search_ranges : goal.decreases-search_ranges
decreases-search_ranges l = let f = l.first in let g = l.second in (f.to - f.from) + (g.to - g.from)
