-- `order` meets its contract, by induction on the depth: halving keeps the words' counts, and so does each call on a
-- half. Assumes nothing.
use Rattle.listed_boxes.proofs.+order.Given as goal

abbrev pub decreases-order : goal.decreases-order
decreases-order l = l.depth
