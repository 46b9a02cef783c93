-- What is in hand, with the points to come, always gives the ten least squares. Assumes nothing.
use mathlib.Core.Path.{◌≡◌}
use Prim.Native.Nat.{◌*◌, ◌≤◌}
use lib.ListN.{length, take, drop}
use Rattle.sorting.specs.Sorted.{insert_all}
use Rattle.neighbor_squares.specs.Inner.Squares.{is_neighbor_cell, within_limit, squares_to, least_squares}
use Rattle.neighbor_squares.proofs.Rising.{Ordered}
use Rattle.neighbor_squares.proofs.least_squares.Given as goal

abbrev pub invariant-loop-k : goal.invariant-loop-k
invariant-loop-k l =
    (length l.f ≡ length l.initial.f) × (l.kept ≤ 10)
    × (least_squares (within_limit l.limit (is_neighbor_cell l.around l.w l.n) l.points l.i) l.points l.i (take l.found (drop (4 * l.n) l.w))
    ≡ take 10 (insert_all (take l.kept (drop l.n l.f))
    (squares_to (within_limit l.limit (is_neighbor_cell l.around l.w l.n) l.points l.i) l.points l.i (drop l.k (take l.found (drop (4 * l.n) l.w)))))) × (take l.n l.f ≡ take l.n l.initial.f)
    × Ordered (take l.kept (drop l.n l.f))
