-- What ordering all points asks for and leaves. Definitions only.
use Rattle.std.specs.Prelude.{◌≡◌, List, ℕ, ◌+◌, ◌*◌, ◌/◌, ◌≤◌, Float, length, take}
use Rattle.lists.specs.Lists.{up_from}
use Rattle.domain.specs.Inner.Accepted.{Cloud}
use Rattle.kd_tree.specs.Tree.{split, boxes_of}

-- an accepted cloud of n points, with slices that are long enough
pub record PointOrderReady (points : List Float) (n work counts floats : ℕ) : Type 0 where
  pub cloud : Cloud (length points / 3) points
  pub count : n ≡ length points / 3
  pub work_enough : n ≤ work
  pub counts_enough : 2048 ≤ counts
  pub floats_enough : 4 * n + 64 ≤ floats

-- the order and the boxes, which end at r
pub record OrderedAll (points : List Float) (order : List ℕ) (floats : List Float) (r : ℕ) : Type 0 where
  pub ordered : order ≡ split points (up_from 0 (length points / 3))
  pub ends : r ≡ length (boxes_of points (up_from 0 (length points / 3)))
  pub boxed : take r floats ≡ boxes_of points (up_from 0 (length points / 3))
