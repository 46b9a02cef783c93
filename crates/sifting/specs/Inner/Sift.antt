-- Of the points that are listed those within a distance of a place. Definitions only.
use Rattle.std.specs.Prelude.{ℕ, ◌*◌, ◌≤◌, ◌≡◌, Bool, not, List, length, take, drop, Float}
use Rattle.std.specs.Float.Ieee.{lt}
use Rattle.vector.specs.declared.Point3f.{Point3f}
use Rattle.vector.specs.Vector.{squared}
use Rattle.points.specs.Points.{point_at}
use Rattle.regions.specs.Inner.Regions.{neighbors_at, used_at}
use Rattle.lists.specs.Members.{Below, only}

-- the square of point k's distance from a place is not above a limit
abbrev pub is_within : List Float → Point3f → Float → ℕ → Bool
is_within pts p t k = not (lt t (squared (point_at pts k) p))

-- the slices have n points, and `found` of them are listed
pub record PointsListed (pts : List Float) (n : ℕ) (w : List ℕ) (found : ℕ) : Type 0 where
  pub few : n ≤ 4096
  pub points_long : 3 * n ≤ length pts
  pub work_long : used_at n ≤ length w
  pub most : found ≤ n
  pub below : Below n (take found (drop (neighbors_at n) w))

-- of the `found` points that are listed r are left, and only the list was changed: w before, u after
pub record Sifted (pts : List Float) (n : ℕ) (p : Point3f) (t : Float) (w u : List ℕ) (found r : ℕ) : Type 0 where
  pub most : r ≤ found
  pub same : take r (drop (neighbors_at n) u) ≡ only (is_within pts p t) (take found (drop (neighbors_at n) w))
  pub before : take (neighbors_at n) u ≡ take (neighbors_at n) w
  pub after : drop (used_at n) u ≡ drop (used_at n) w
