-- The nearest point, by a scan over all points in number order. Definitions only.
use Rattle.std.specs.Prelude.{ℕ, zero, suc, ◌+◌, ◌-◌, cond, List, Float}
use Rattle.std.specs.Float.Ieee.{lt}
use Rattle.vector.specs.Vector.{distance}
use Rattle.vector.specs.declared.Point3f.{Point3f}
use Rattle.points.specs.Points.{point_at}

-- a point's number, and the computed length from it to the spot
pub record Near : Type 0 where
  pub distance : Float
  pub number : ℕ

-- the computed length from point i to the spot
abbrev pub length_to : List Float → Point3f → ℕ → Float
length_to points spot i = distance (point_at points i) spot

abbrev pub near_at : (ℕ → Float) → ℕ → Near
near_at key i = record { distance = key i; number = i }

-- of the best so far and m points from i on, in number order, the first with the least length
unfoldable pub first_least : (ℕ → Float) → Near → ℕ → ℕ → Near
first_least key best i zero = best
first_least key best i (suc m) = first_least key (cond (lt (key i) best.distance) (near_at key i) best) (i + 1) m

-- the nearest of n points: the first with the least length
unfoldable pub nearest : List Float → ℕ → Point3f → Near
nearest points n spot = first_least (length_to points spot) (near_at (length_to points spot) 0) 1 (n - 1)
