-- What is told of a list that was put in another order, and of a box of a part of it. Definitions only.
use Rattle.std.specs.Prelude.{ℕ, ◌/◌, ◌≤◌, ◌<◌, ◌≡◌, List, T, eqb, Float, length, get_or}
use Rattle.lists.specs.Lists.{count}
use Rattle.vector.specs.Inner.Numbers.{Finite}
use Rattle.points.specs.Points.{point_at}
use Rattle.bounds.specs.declared.Bounds.{Bounds}
use Rattle.bounds.specs.Inner.Within.{within}

-- two lists have each word equally often
pub record SameWords (w u : List ℕ) : Type 0 where
  pub size : length u ≡ length w
  pub counts : (k : ℕ) → count (eqb k) u ≡ count (eqb k) w

-- where all coordinates are numbers, a box has the points that stand in a list from a place to another
pub record RangeBoxed (pts : List Float) (list : List ℕ) (from to : ℕ) (b : Bounds) : Type 0 where
  pub has : ((k : ℕ) → k < length pts / 3 → Finite (point_at pts k))
      → (m : ℕ) → from ≤ m → m < to → get_or list m 0 < length pts / 3 → T (within b (point_at pts (get_or list m 0)))
