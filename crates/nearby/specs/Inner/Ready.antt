-- What the searches ask of the lent slices, and what they leave there. Definitions only.
use Rattle.std.specs.Prelude.{ℕ, ◌+◌, ◌*◌, ◌≤◌, ◌<◌, ◌≡◌, List, length, take, drop, get_or, Float}
use Rattle.regions.specs.Inner.Regions.{neighbors_at, used_at, words_length}
use Rattle.regions.specs.Inner.Regions as regions
use Rattle.decisions.specs.declared.Scene.{Scene}

-- the slices are long enough for the cloud
pub record SceneHeld (s : Scene) (points : List Float) (w : List ℕ) : Type 0 where
  pub few : s.n ≤ 4096
  pub points_long : length points ≡ 3 * s.n
  pub work_long : words_length s.n ≤ length w

-- of each point whether it is used
abbrev pub used_in_scene : Scene → List ℕ → List ℕ
used_in_scene s w = regions.used_in s.n w

-- the neighbours that were asked for last
abbrev pub neighbors_listed : Scene → List ℕ → ℕ → List ℕ
neighbors_listed s w count = take count (drop (neighbors_at s.n) w)

-- the m-th of them
abbrev pub nth : Scene → List ℕ → ℕ → ℕ
nth s w m = get_or w (neighbors_at s.n + m) 0

-- they are points of the cloud
pub record NeighborsListed (s : Scene) (w : List ℕ) (count : ℕ) : Type 0 where
  pub most : count ≤ s.n
  pub below : (m : ℕ) → m < count → nth s w m < s.n

-- a search changes nothing but the list of neighbours
pub record SceneKept (s : Scene) (w u : List ℕ) : Type 0 where
  pub before : take (neighbors_at s.n) u ≡ take (neighbors_at s.n) w
  pub after : drop (used_at s.n) u ≡ drop (used_at s.n) w
