-- The least squared distance among some points, and when it decides. Definitions only.
use Rattle.std.specs.Prelude.{ℕ, ◌≡◌, false, cond, List, [], ◌∷◌, T, eqb, Float}
use Rattle.std.specs.Float.{inf}
use Rattle.std.specs.Float.Ieee.{lt, le}
use Rattle.numbers.specs.Root.{root}
use Rattle.vector.specs.Vector.{squared}
use Rattle.points.specs.Points.{point_at}
use Rattle.spatial_hash.specs.declared.Hash.{Hash}
use Rattle.spatial_hash.specs.Inner.Near.{HashedAll}
use Rattle.estimate.specs.Estimate.{least_distance}

-- the lesser of s and the squared distance of point j from point i, which counts only where it is another point
unfoldable pub lesser_square : List Float → ℕ → ℕ → Float → Float
lesser_square pts i j s =
    let e = squared (point_at pts j) (point_at pts i) in
    cond (eqb i j) s (cond (lt e s) e s)

-- the least of s and of the squared distances of the points js from point i
unfoldable pub least_square : List Float → ℕ → Float → List ℕ → Float
least_square pts i s [] = s
least_square pts i s (j ∷ js) = least_square pts i (lesser_square pts i j s) js

-- a look from point i within a limit: the square s that it found is the least of all if it is not above the limit
pub record LookedWithin (h : Hash) (pts : List Float) (n i : ℕ) (limit s : Float) (w : List ℕ) : Type 0 where
  pub decides : T (le s limit) → root s ≡ least_distance pts n i
  pub number : T (le s (inf false))
  pub hashed : HashedAll h pts n w
