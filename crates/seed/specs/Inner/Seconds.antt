-- What a first point gives with some of the second points, in their order. Definitions only.
use Rattle.std.specs.Prelude.{ℕ, ◌≤◌, ◌<◌, ◌≡◌, Bool, true, List, length, take, drop, Float}
use Rattle.std.specs.Prelude.{Option as Outcome}
use Rattle.std.proofs.Math.Option.{Option}
use Rattle.lists.specs.Inner.Found.{option_found}
use Rattle.lists.specs.Lists.{unused}
use Rattle.lists.specs.Members.{only}
use Rattle.grid.specs.Inner.Looking.{order_of}
use Rattle.grid.specs.Inner.Index.{CellsIndexed}
use Rattle.spatial_hash.specs.Inner.Near.{Hashed}
use Rattle.patch.specs.Search.{second_of}
use Rattle.decisions.specs.declared.Scene.{Scene}
use Rattle.decisions.specs.Decisions.{floats_of}
use Rattle.filters.specs.Inner.Refused.{Limiting}
use Rattle.nearby.specs.declared.Filter.{Filter}
use Rattle.nearby.specs.Inner.Ready.{SceneHeld}
use Rattle.nearby.specs.Inner.Narrow.{passes_filter}
use Rattle.seedless.specs.declared.Site.{Site}
use Rattle.seedless.specs.Inner.Parts.{with_first}
use Rattle.seedless.specs.Inner.Seedless.{SeedlessFrom, SeedlessBetween}

-- the points that pass a filter, in the order of neighbours
abbrev pub passing : Scene → List Float → List ℕ → Filter → List ℕ
passing s pts used f = only (passes_filter s pts used f) (order_of s.indexed s.grid pts s.n)

-- the seed with i as the first point and as the second one of those, from one place on and before another
abbrev pub with_seconds : Scene → List Float → Float → List ℕ → Filter → ℕ → ℕ → ℕ → Option (ℕ × ℕ × ℕ)
with_seconds s pts r used f i from to =
    second_of (floats_of s pts) r used i (passing s pts used f) (drop from (take to (passing s pts used f)))

-- that is found, and those are not more than the cloud's points
pub record SecondsTried (s : Scene) (pts : List Float) (r : Float) (used : List ℕ) (f : Filter) (i from to : ℕ)
    (found : Outcome (ℕ × ℕ × ℕ)) : Type 0 where
  pub same : found ≡ option_found (with_seconds s pts r used f i from to)
  pub few : length (passing s pts used f) ≤ s.n

-- the slices hold what a search from point i asks for
pub record SiteSearchable (p : Site) (pts : List Float) (w : List ℕ) (i : ℕ) : Type 0 where
  pub held : SceneHeld p.scene pts w
  pub indexed : CellsIndexed p.scene.grid pts p.scene.n w
  pub hashed : Hashed p.hash pts p.scene.n w
  pub limiting : Limiting p.scene p.radius p.limits
  pub inside : i < p.scene.n

-- no three points make a seed of which one is from lo on and below i, and point i is unused
pub record SeedlessBefore (p : Site) (pts : List Float) (used : List ℕ) (lo i : ℕ) : Type 0 where
  pub between : SeedlessBetween p.scene pts p.radius used lo i
  pub order : lo ≤ i
  pub free : unused used i ≡ true

-- the seed with i as the first point is found, and what is told of it holds
pub record FirstTried (s : Scene) (pts : List Float) (r : Float) (used : List ℕ) (lo i : ℕ)
    (found : Outcome (ℕ × ℕ × ℕ)) (seedless : Bool) : Type 0 where
  pub same : found ≡ option_found (with_first (floats_of s pts) r used i)
  pub told : seedless ≡ true → SeedlessFrom s pts r used lo i
