-- What the splits ask for. Definitions only.
use Rattle.std.specs.Prelude.{List, ℕ, ◌+◌, ◌*◌, ◌≤◌, ◌<◌, Float, length}
use Rattle.kd_tree.specs.Tree.{box_count}
use Rattle.axis_orders.specs.Inner.Orders.{CoordinatesFit, Orders}

-- what splitting asks for, of slices of such lengths
pub record SplitReady (points : List Float) (xs x y z : List ℕ) (work boxes at : ℕ) : Type 0 where
  pub numbers : CoordinatesFit points
  pub some : 0 < length xs
  pub work_enough : length xs ≤ work
  pub boxes_enough : at + 6 * box_count (length xs) ≤ boxes
  pub orders : Orders points xs x y z
