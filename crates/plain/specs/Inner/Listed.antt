-- The candidates of a point, listed with their distances, and the limits by which they are found. Definitions only.
use Rattle.std.specs.Prelude.{ℕ, ◌+◌, ◌≤◌, ◌<◌, ◌≡◌, cond, List, length, take, get_or, set, T, Float}
use Rattle.std.specs.Float.{nan, binary32}
use Rattle.std.specs.Float.Ieee.{fits}
use Rattle.numbers.specs.Rounded.{f32, ◌⊗◌}
use Rattle.vector.specs.Vector.{distance}
use Rattle.points.specs.Points.{point_at}
use Rattle.lists.specs.Lists.{up_from}
use Rattle.bounds.specs.Inner.Within.{Limit}
use Rattle.plain.specs.Plain.{candidate, candidates}
use Rattle.plain.specs.Inner.Laid.{PointReady}
use Rattle.plain.specs.declared.PlainLimits.{PlainLimits}

-- the limits of a radius; of the guesses nothing is said
pub record RadiusLimited (radius : Float) (l : PlainLimits) : Type 0 where
  pub reach_is : l.reach ≡ radius ⊗ f32 0x40000000
  pub far : Limit l.reach l.square
  pub widest_is : l.widest ≡ radius ⊗ f32 0x3fc00000
  pub beyond_fits : T (fits binary32 l.beyond)

-- the distance of the point j from i
abbrev pub candidate_apart : List Float → ℕ → ℕ → Float
candidate_apart points i j = distance (point_at points i) (point_at points j)

-- j is listed behind `count` others, with its distance, if it is a candidate of i
pub record Adds (points : List Float) (radius : Float) (i j : ℕ) (w : List ℕ) (lengths : List Float) (count : ℕ)
    (w' : List ℕ) (lengths' : List Float) (r : ℕ) : Type 0 where
  pub counted : r ≡ cond (candidate points radius i j) (count + 1) count
  pub stored : w' ≡ cond (candidate points radius i j) (set w count j) w
  pub measured : lengths' ≡ cond (candidate points radius i j) (set lengths count (candidate_apart points i j)) lengths

-- `count` points below i are listed, with their distances
pub record DistancesListed (points : List Float) (i : ℕ) (w : List ℕ) (lengths : List Float) (count : ℕ) : Type 0 where
  pub words_enough : count ≤ length w
  pub lengths_enough : count ≤ length lengths
  pub below : (k : ℕ) → k < count → get_or w k 0 < i
  pub distances : (k : ℕ) → k < count → get_or lengths k nan ≡ candidate_apart points i (get_or w k 0)

-- they are the candidates of i
pub record CandidatesListed (points : List Float) (radius : Float) (i : ℕ) (w : List ℕ) (lengths : List Float)
    (count : ℕ)
    : Type 0 where
  pub ready : PointReady points i
  pub few : count ≤ i
  pub lists : DistancesListed points i w lengths count
  pub all : take count w ≡ candidates points radius i (up_from 0 i)
