-- The nearest points to many spots and how far they are: what the call answers and leaves. Definitions only.
use Rattle.std.specs.Prelude.{ℕ, ◌/◌, cond, ◌≡◌, List, ◌++◌, map, min, eqb, length, drop, Float}
use Rattle.numbers.specs.Rounded.{f32}
use Rattle.lists.specs.Lists.{up_from}
use Rattle.points.specs.Points.{point_at}
use Rattle.clearing.specs.Swept.{swept}
use Rattle.nearest.specs.Scan.{nearest}
use Rattle.nearest_points.specs.declared.Searched.{Searched}
use Rattle.nearest_points.specs.Found.{Answers, checked, nearest_refusal, numbers_in}

-- how far the point nearest to spot i is from it
abbrev pub distance_at : List Float → List Float → ℕ → Float
distance_at points spots i = (nearest points (length points / 3) (point_at spots i)).distance

-- a distance a spot, in front of what lies past them
abbrev pub distances_in : List Float → List Float → List Float → List Float
distances_in points spots distances = map (distance_at points spots) (up_from 0 (length spots / 3))
    ++ drop (length spots / 3) distances

-- what the call answers and leaves: 13 asks for room in both slices
pub record Measures
    (points spots : List Float) (index found : List ℕ) (distances : List Float) (words : List ℕ) (floats : List Float)
    (r : Searched) (found' : List ℕ) (distances' : List Float) (words' : List ℕ) (floats' : List Float)
    : Type 0 where
  pub answers
      : Answers r
      (nearest_refusal points spots index (length words) (length floats) (min (length found) (length distances)))
  pub found_left : found' ≡ cond (eqb r.answer 0) (numbers_in points spots found) found
  pub distances_left : distances' ≡ cond (eqb r.answer 0) (distances_in points spots distances) distances
  pub words_left : words' ≡ swept 0 (checked points spots (length index) (length words) (length floats)) words
  pub floats_left : floats' ≡ swept (f32 0) (checked points spots (length index) (length words) (length floats)) floats
