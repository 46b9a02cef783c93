-- Boxes that hold the parts of a list of points, in preorder, and how far they are. Definitions only.
use Rattle.std.specs.Prelude.{◌≡◌, cond, not, List, ℕ, ◌+◌, ◌-◌, ◌*◌, ◌/◌, ◌≤◌, ◌<◌, T, leb, Float, length, get_or, take, drop}
use Rattle.std.specs.Float.{nan, binary32}
use Rattle.std.specs.Float.Ieee.{le, of_bits, nan_bits}
use Rattle.std.specs.Float.Ieee.Scale.{finite}
use Rattle.lists.specs.Members.{In}
use Rattle.numbers.specs.Rounded.{◌⊖◌}
use Rattle.numbers.specs.Root.{root}
use Rattle.vector.specs.Vector.{point, magnitude_squared}
use Rattle.vector.specs.Inner.Numbers.{Finite}
use Rattle.vector.specs.declared.Point3f.{Point3f}
use Rattle.points.specs.Points.{point_at}
use Rattle.nearest.specs.declared.Best.{Best}
use Rattle.nearest.specs.Parts.{Length, NumbersOfPoints, BestLimited}
use Rattle.nearest.specs.Least.{greater, lesser}

-- the coordinate whose bits stand in a word
abbrev pub float_at : List ℕ → ℕ → Float
float_at words k = of_bits binary32 (get_or words k 0)

-- how far the nearest number between lo and hi is from v, below zero where it is less
unfoldable pub side_gap : Float → Float → Float → Float
unfolding greater lesser
side_gap v lo hi = lesser (greater lo v) hi ⊖ v

-- how far the spot is, on each axis, from the box at a word: three least coordinates, then three greatest
abbrev pub gaps : List ℕ → ℕ → Point3f → Point3f
gaps words at spot =
    point (side_gap spot.x (float_at words at) (float_at words (at + 3)))
    (side_gap spot.y (float_at words (at + 1)) (float_at words (at + 4)))
    (side_gap spot.z (float_at words (at + 2)) (float_at words (at + 5)))

-- how far the box is from the spot, squared
unfoldable pub reach_of : List ℕ → ℕ → Point3f → Float
reach_of words at spot = magnitude_squared (gaps words at spot)

-- a number between two, all three finite
pub record FiniteBetween (lo hi v : Float) : Type 0 where
  pub lo_finite : T (finite lo)
  pub hi_finite : T (finite hi)
  pub v_finite : T (finite v)
  pub above : T (le lo v)
  pub below : T (le v hi)

-- a point within the box
pub record Inside (words : List ℕ) (at : ℕ) (p : Point3f) : Type 0 where
  pub on_x : FiniteBetween (float_at words at) (float_at words (at + 3)) p.x
  pub on_y : FiniteBetween (float_at words (at + 1)) (float_at words (at + 4)) p.y
  pub on_z : FiniteBetween (float_at words (at + 2)) (float_at words (at + 5)) p.z

-- six words that are the bits of numbers
pub record Six (words : List ℕ) (at : ℕ) : Type 0 where
  pub long : at + 6 ≤ length words
  pub numbers : (k : ℕ) → k < 6 → T (not (nan_bits binary32 (get_or words (at + k) 0)))

-- a box that holds all points of a list
pub record HeldInBox (points : List Float) (words : List ℕ) (xs : List ℕ) (at : ℕ) : Type 0 where
  pub six : Six words at
  pub known : NumbersOfPoints points xs
  pub inside : (v : ℕ) → In v xs → Inside words at (point_at points v)

-- How many boxes a part of n points has, where width is the power of two with n up to nine and above half of nine
-- times it: the halves at that depth are eight or fewer but for n - 8 * width of nine.
unfoldable pub boxes_below : ℕ → ℕ → ℕ
boxes_below width n = cond (leb n 8) 1 (2 * (width + (n - 8 * width)) - 1)

-- where the second half's box stands
abbrev pub secondAt : ℕ → ℕ → ℕ → ℕ
secondAt at width n = at + 6 + 6 * boxes_below (width / 2) (n / 2)

-- the box at a place holds the list, and those behind it its halves, as long as more than eight are left
pub data Boxed (points : List Float) (words : List ℕ) : List ℕ → ℕ → ℕ → Type 0 where
  leaf : {xs : List ℕ} {at width : ℕ} → length xs ≤ 8 → HeldInBox points words xs at → Boxed points words xs at width
  node : {xs : List ℕ} {at width : ℕ} → 8 < length xs → HeldInBox points words xs at
      → Boxed points words (take (length xs / 2) xs) (at + 6) (width / 2)
      → Boxed points words (drop (length xs / 2) xs) (secondAt at width (length xs)) (width / 2)
      → Boxed points words xs at width

-- the spot whose coordinates stand in three floats
abbrev pub spot_in : List Float → Point3f
spot_in place = point (get_or place 0 nan) (get_or place 1 nan) (get_or place 2 nan)

-- what a search of a part starts from
pub record SearchReady
    (points : List Float) (spot : Point3f) (words : List ℕ) (at width : ℕ) (square : Float) (xs : List ℕ) (best : Best)
    : Type 0 where
  pub boxed : Boxed points words xs at width
  pub narrow : width ≤ 4096
  pub few : length xs ≤ 4096
  pub spot_finite : Finite spot
  pub square_is : square ≡ reach_of words at spot
  pub best_length : Length (root best.square)
  pub best_limit : BestLimited best
