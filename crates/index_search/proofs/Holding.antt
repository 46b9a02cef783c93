-- The least box of a list of points holds them. Assumes nothing.
use mathlib.Core.List.{List}
use Prim.Native.Nat.{ℕ, ◌<◌}
use lib.Ieee.{Float}
use lib.ListN.{length}
use Rattle.lists.specs.Members.{In}
use Rattle.axis_sort.specs.Axis.{coordinate_of}
use Rattle.kd_tree.specs.Boxes.{least_on_axis, greatest_on_axis}
use Rattle.kd_tree.proofs.Farthest.{Number, low_number, high_number, low_all, high_all}
use Rattle.box_search.specs.Boxes.{FiniteBetween}

pub between : (points : List Float) (axis : ℕ) (xs : List ℕ) (some : 0 < length xs) (good : (v : ℕ) → In v xs → Number (coordinate_of points axis v))
    → (v : ℕ) → In v xs → FiniteBetween (least_on_axis points axis xs) (greatest_on_axis points axis xs) (coordinate_of points axis v)
between points axis xs some good v i = record {
  lo_finite = (low_number points axis xs some good).is_finite;
  hi_finite = (high_number points axis xs some good).is_finite;
  v_finite = (good v i).is_finite;
  above = low_all points axis xs some good v i;
  below = high_all points axis xs some good v i;
}
