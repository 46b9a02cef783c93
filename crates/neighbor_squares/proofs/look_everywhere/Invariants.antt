-- What is in hand, with the points to come, always gives the ten least squares. Assumes nothing.
use mathlib.Core.Path.{◌≡◌}
use Prim.Native.Nat.{◌-◌, ◌≤◌}
use lib.ListN.{length, take, drop}
use Rattle.lists.specs.Lists.{up_from}
use Rattle.sorting.specs.Sorted.{insert_all}
use Rattle.neighbor_squares.specs.Inner.Squares.{is_neighbor_cell, squares_to, least_squares}
use Rattle.neighbor_squares.proofs.Rising.{Ordered}
use Rattle.neighbor_squares.proofs.look_everywhere.Given as goal

abbrev pub invariant-loop-j : goal.invariant-loop-j
invariant-loop-j l =
    (length l.f ≡ length l.initial.f) × (l.kept ≤ 10)
    × (least_squares (is_neighbor_cell l.around l.w l.n) l.points l.i (up_from 0 l.n)
    ≡ take 10 (insert_all (take l.kept (drop l.n l.f)) (squares_to (is_neighbor_cell l.around l.w l.n) l.points l.i (up_from l.j (l.n - l.j))))) × (take l.n l.f ≡ take l.n l.initial.f)
    × Ordered (take l.kept (drop l.n l.f))
