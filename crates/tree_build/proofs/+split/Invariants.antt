-- `split` meets its contract, by induction on how many points the part has. Eight or fewer are a leaf: the box alone is
-- written. Else `bound` writes the box and `divide` halves the orders, and `middle` is what is then known. Both calls
-- are citations of the claim at a smaller length (`first_ready`, `second_ready`), and `part_end` puts their results
-- together. Most of the rest says that the lent halves lie inside their slices (`half_bytes`, `behind_room`). Assumes
-- nothing.
use lib.ListN.{length}
use Rattle.tree_build.proofs.+split.Given as goal

abbrev pub decreases-split : goal.decreases-split
decreases-split l = length l.order.now
