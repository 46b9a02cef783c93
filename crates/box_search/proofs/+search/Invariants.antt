-- `search` meets its contract, by induction on how many points the part has. A box beyond the limit is left out
-- (`left_out`), a leaf is scanned, and otherwise the nearer half is searched first: since a scan finds the same in any
-- order, the two halves' scans are the whole one's, also where the second half is left out. Assumes nothing.
use lib.ListN.{length}
use Rattle.box_search.proofs.+search.Given as goal

abbrev pub decreases-search : goal.decreases-search
decreases-search l = length l.order.now
