-- The three orders of a part of a cloud. Definitions only.
use Rattle.std.specs.Prelude.{◌≡◌, List, ℕ, ◌-◌, ◌/◌, ◌≤◌, ◌<◌, T, eqb, Float, length, take, drop, get_or}
use Rattle.std.specs.Float.{nan, binary32}
use Rattle.std.specs.Float.Ieee.{fits}
use Rattle.lists.specs.Lists.{count}
use Rattle.lists.specs.Members.{Below}
use Rattle.vector.specs.Vector.{point}
use Rattle.bounds.specs.declared.Bounds.{Bounds}
use Rattle.domain.specs.Inner.Accepted.{Cloud}
use Rattle.axis_sort.specs.Axis.{coordinate_of, precedes}
use Rattle.axis_sort.specs.Sorted.{sorted_by}
use Rattle.kd_tree.specs.Boxes.{plus_zero, box_corners, longest}
use Rattle.kd_tree.specs.Inner.Written.{ListWritten}

-- the coordinate of the first number of a list, and of the last, minus zero as zero
abbrev pub first_coordinate : List Float → ℕ → List ℕ → Float
first_coordinate points axis xs = plus_zero (coordinate_of points axis (get_or xs 0 0))

abbrev pub last_of : List Float → ℕ → List ℕ → Float
last_of points axis xs = plus_zero (coordinate_of points axis (get_or xs (length xs - 1) 0))

-- the box at the ends of three orders
unfoldable pub ends_box : List Float → List ℕ → List ℕ → List ℕ → Bounds
ends_box points x y z = record {
  lo = point (first_coordinate points 0 x) (first_coordinate points 1 y) (first_coordinate points 2 z);
  hi = point (last_of points 0 x) (last_of points 1 y) (last_of points 2 z);
}

-- a box stands from `at` on, and is longest along axis r
pub record Bounding (box : Bounds) (boxes boxes' : List Float) (at r : ℕ) : Type 0 where
  pub written : ListWritten boxes boxes' at (box_corners box)
  pub axis_is : r ≡ longest box
  pub axis_below : r < 3

-- the coordinates of an accepted cloud, each an f32
pub record CoordinatesFit (points : List Float) : Type 0 where
  pub cloud : Cloud (length points / 3) points
  pub fit : (k : ℕ) → T (fits binary32 (get_or points k nan))

-- a list of a cloud's points, each at most once, and its order along each axis
pub record Orders (points : List Float) (xs x y z : List ℕ) : Type 0 where
  pub below : Below (length points / 3) xs
  pub once : (v : ℕ) → count (eqb v) xs ≤ 1
  pub along_0 : x ≡ sorted_by (precedes points 0) xs
  pub along_1 : y ≡ sorted_by (precedes points 1) xs
  pub along_2 : z ≡ sorted_by (precedes points 2) xs

-- what dividing asks for, of a work slice of such a length
pub record Dividing (points : List Float) (axis : ℕ) (xs x y z : List ℕ) (work : ℕ) : Type 0 where
  pub numbers : CoordinatesFit points
  pub axis_is : axis < 3
  pub some : 0 < length xs
  pub work_enough : length xs ≤ work
  pub orders : Orders points xs x y z

-- a list in order along an axis, and both halves with their orders
pub record Divided (points : List Float) (axis : ℕ) (xs xs' x' y' z' : List ℕ) : Type 0 where
  pub ordered : xs' ≡ sorted_by (precedes points axis) xs
  pub first : Orders points (take (length xs / 2) xs') (take (length xs / 2) x') (take (length xs / 2) y')
      (take (length xs / 2) z')
  pub second : Orders points (drop (length xs / 2) xs') (drop (length xs / 2) x') (drop (length xs / 2) y')
      (drop (length xs / 2) z')
