-- Faces laid one after the other into a lent slice that may be too short for them. Definitions only.
use Rattle.std.specs.Prelude.{ℕ, ◌+◌, ◌*◌, ◌≤◌, ◌<◌, ◌≡◌, List, ◌++◌, length, take, Float}
use Rattle.patch.specs.Lay.{Face}
use Rattle.patch.specs.View.{written}

-- a point number of the cloud
pub record PointReady (points : List Float) (i : ℕ) : Type 0 where
  pub few : i < 4096
  pub there : 3 * i + 2 < length points

-- the faces fs, `count` of them, have been laid into a slice that was lent
pub record HoldsFaces (fs : List Face) (lent slice : List ℕ) (count : ℕ) : Type 0 where
  pub counted : count ≡ length fs
  pub stored : slice ≡ written fs lent

-- more faces are laid, until there are 10,000
pub record LaysFaces (more : List Face) (slice : List ℕ) (count : ℕ) (back : List ℕ) (r : ℕ) : Type 0 where
  pub most : r ≤ 10000
  pub laid : (lent : List ℕ) (fs : List Face) → HoldsFaces fs lent slice count
      → HoldsFaces (take 10000 (fs ++ more)) lent back r
