-- Pairs of listed points that make no seed with a point, by ranges of the list. Definitions only.
use Rattle.std.specs.Prelude.{ℕ, ◌+◌, ◌≤◌, ◌<◌, ◌≡◌, List, Float}
use Rattle.regions.specs.Inner.Regions.{neighbors_at}
use Rattle.decisions.specs.declared.Scene.{Scene}
use Rattle.filters.specs.declared.Limits.{Limits}
use Rattle.nearby.specs.Inner.Ready.{SceneHeld, NeighborsListed, nth}
use Rattle.three_points.specs.Inner.Judged.{Seedless, LimitsAtRadius}
use Rattle.listed_boxes.specs.Inner.Boxes.{RangeBoxed}
use Rattle.seedless_pairs.specs.declared.Range.{Range}

-- points i and j make none with the listed ones, the first `from` left out
abbrev pub SeedlessAfter : Scene → List Float → Float → List ℕ → ℕ → ℕ → ℕ → ℕ → Type 0
SeedlessAfter s pts r w count i j from = (m : ℕ) → from ≤ m → m < count → Seedless s pts r i j (nth s w m)

-- no listed point of a range and a later one of another make one with point i
abbrev pub PairsSeedless : Scene → List Float → Float → List ℕ → ℕ → Range → Range → Type 0
PairsSeedless s pts r w i first second = (j k : ℕ) → first.from ≤ j → j < first.to → second.from ≤ k → k < second.to
    → j < k → Seedless s pts r i (nth s w j) (nth s w k)

-- a range is one of the list, and its box has the range's points
pub record InRange (s : Scene) (pts : List Float) (w : List ℕ) (q : Range) : Type 0 where
  pub rises : q.from ≤ q.to
  pub listed : NeighborsListed s w q.to
  pub boxed : RangeBoxed pts w (neighbors_at s.n + q.from) (neighbors_at s.n + q.to) q.bounds

-- it goes from one place to another
pub record Spans (s : Scene) (pts : List Float) (w : List ℕ) (from to : ℕ) (q : Range) : Type 0 where
  pub from_is : q.from ≡ from
  pub to_is : q.to ≡ to
  pub in_range_lem : InRange s pts w q

-- two such ranges, and a point of a cloud whose limits are known
pub record Ranged (s : Scene) (pts : List Float) (w : List ℕ) (r : Float) (l : Limits) (i : ℕ) (first second : Range)
    : Type 0 where
  pub held : SceneHeld s pts w
  pub inside : i < s.n
  pub judged : LimitsAtRadius s pts r l
  pub first_in : InRange s pts w first
  pub second_in : InRange s pts w second
