-- Points no three of which make a seed, whichever of them comes first. Definitions only.
use Rattle.std.specs.Prelude.{ℕ, ◌≤◌, ◌<◌, ◌≡◌, ◌≢◌, Bool, true, ◌&&◌, ◌||◌, List, ltb, Float}
use Rattle.lists.specs.Lists.{unused}
use Rattle.decisions.specs.declared.Scene.{Scene}
use Rattle.nearby.specs.Inner.Ready.{NeighborsListed, SceneKept, used_in_scene, nth}
use Rattle.seedless.specs.declared.Checked.{Checked}
use Rattle.seedless.specs.declared.Checked.TheVariants.{Told, Untold, Later}
use Rattle.three_points.specs.Inner.Judged.{Seedless}

-- k comes after point i or before point lo
abbrev pub is_other : ℕ → ℕ → ℕ → Bool
is_other lo i k = ltb i k || ltb k lo

-- and is unused
abbrev pub is_left : Scene → ℕ → ℕ → List ℕ → ℕ → Bool
is_left s lo i w k = is_other lo i k && unused (used_in_scene s w) k

-- no two such points make one with point i
abbrev pub SeedlessFrom : Scene → List Float → Float → List ℕ → ℕ → ℕ → Type 0
SeedlessFrom s pts r used lo i = (j k : ℕ) → j < s.n → k < s.n → is_other lo i j ≡ true → is_other lo i k ≡ true
    → j ≢ k → unused used j ≡ true → unused used k ≡ true → Seedless s pts r i j k

-- that holds of each unused point from lo on and below i
abbrev pub SeedlessBetween : Scene → List Float → Float → List ℕ → ℕ → ℕ → Type 0
SeedlessBetween s pts r used lo i = (a : ℕ) → a < i → lo ≤ a → unused used a ≡ true → SeedlessFrom s pts r used lo a

-- k is one of the listed points
abbrev pub Stands : Scene → List ℕ → ℕ → ℕ → Type 0
Stands s w count k = (m : ℕ) × ((m < count) × (nth s w m ≡ k))

-- the listed points stand in another order: w before, u after
pub record ListReordered (s : Scene) (w u : List ℕ) (count : ℕ) : Type 0 where
  pub listed : NeighborsListed s u count
  pub complete : (k : ℕ) → Stands s w count k → Stands s u count k
  pub kept : SceneKept s w u

-- no two of the listed points that are such make one with point i
abbrev pub AllLeftSeedless : Scene → List Float → Float → ℕ → ℕ → List ℕ → ℕ → Type 0
AllLeftSeedless s pts r lo i w found = (j k : ℕ) → Stands s w found j → Stands s w found k → is_left s lo i w j ≡ true
    → is_left s lo i w k ≡ true → j ≢ k → Seedless s pts r i j k

-- of the `found` points r are left, all such among them: w before, u after
pub record PointsLeft (s : Scene) (lo i : ℕ) (w u : List ℕ) (found r : ℕ) : Type 0 where
  pub listed : NeighborsListed s u r
  pub complete : (k : ℕ) → Stands s w found k → is_left s lo i w k ≡ true → Stands s u r k
  pub kept : SceneKept s w u

-- what holds if a check tells that
abbrev pub IfTold : Checked → Type 0 → Type 0
IfTold (Told left) P = P
IfTold (Untold left) P = Unit {0}
IfTold (Later seconds) P = Unit {0}
