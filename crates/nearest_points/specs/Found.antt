-- The nearest point to a spot, and to many spots: the calls' answers, and what they leave. Definitions only.
use Rattle.std.specs.Prelude.{ℕ, ◌+◌, ◌/◌, ◌%◌, Bool, cond, ◌&&◌, ◌≡◌, List, [], ◌∷◌, ◌++◌, map, leb, ltb, eqb, length, drop, Float}
use Rattle.answers.specs.Answers.{no_points, wrong_lengths, too_many_points, outside_point, short_work, short_output}
use Rattle.answers.specs.Answers.{foreign_index}
use Rattle.numbers.specs.Rounded.{f32}
use Rattle.lists.specs.Lists.{up_from}
use Rattle.vector.specs.Vector.{point}
use Rattle.points.specs.Points.{point_at}
use Rattle.ranges.specs.Range.{first_outside, farthest}
use Rattle.domain.specs.declared.Refusal.{Refusal}
use Rattle.domain.specs.Refusals.{Check, check, first_refusal, roomy, point_check}
use Rattle.clearing.specs.Swept.{swept}
use Rattle.kd_tree.specs.Tree.{index_size, belongs}
use Rattle.nearest.specs.Scan.{nearest}
use Rattle.nearest_points.specs.declared.Nearest.{Nearest}
use Rattle.nearest_points.specs.declared.Searched.{Searched}

abbrev pub answer_of : ℕ → ℕ → Searched
answer_of answer detail = record { answer = answer; detail = detail }

abbrev pub nearest_of : ℕ → ℕ → ℕ → Float → Nearest
nearest_of answer detail p d = record { answer = answer; detail = detail; point = p; distance = d }

-- an answer's number and detail are a refusal's
pub record Answers (r : Searched) (f : Refusal) : Type 0 where
  pub answered : r.answer ≡ f.answer
  pub detailed : r.detail ≡ f.detail

-- The checks up to 7, by the lengths of the slices and the first point and the first spot outside the domain:
-- 1 to 3 of the points, 2 also for spots not in threes, 4 of the points, 4 of the spots with the point count added,
-- then 7, work as in the scope or an index of fewer than 8n + 64 numbers.
abbrev pub checks_by : ℕ → ℕ → ℕ → ℕ → ℕ → ℕ → ℕ → List Check
checks_by points spots bad badSpot index words floats =
    check (ltb 0 points) no_points 0
    ∷ check (eqb (points % 3) 0 && eqb (spots % 3) 0) wrong_lengths 0
    ∷ check (leb (points / 3) 4096) too_many_points 0
    ∷ point_check (points / 3) bad
    ∷ check (leb (spots / 3) badSpot) outside_point (points / 3 + badSpot)
    ∷ check (roomy (points / 3) words floats && leb (index_size (points / 3)) index) short_work 0
    ∷ []

unfoldable pub search_refusal : List Float → List Float → ℕ → ℕ → ℕ → Refusal
search_refusal points spots index words floats =
    first_refusal
    (checks_by (length points) (length spots) (first_outside farthest points) (first_outside farthest spots) index words
    floats)

-- whether the checks up to 7 pass, for slices of these lengths
abbrev pub checked : List Float → List Float → ℕ → ℕ → ℕ → Bool
checked points spots index words floats = eqb (search_refusal points spots index words floats).answer 0

-- all checks: then 13, room for a number a spot, and 22, whether the index is this cloud's
unfoldable pub nearest_refusal : List Float → List Float → List ℕ → ℕ → ℕ → ℕ → Refusal
nearest_refusal points spots index words floats found =
    cond (checked points spots (length index) words floats)
    (first_refusal (check (leb (length spots / 3) found) short_output 0 ∷ check (belongs points index) foreign_index 0
    ∷ []))
    (search_refusal points spots (length index) words floats)

-- the number of the point nearest to spot i
abbrev pub number_at : List Float → List Float → ℕ → ℕ
number_at points spots i = (nearest points (length points / 3) (point_at spots i)).number

-- a point number a spot, in front of what lies past them
abbrev pub numbers_in : List Float → List Float → List ℕ → List ℕ
numbers_in points spots found = map (number_at points spots) (up_from 0 (length spots / 3))
    ++ drop (length spots / 3) found

-- many spots: what the call answers and leaves
pub record Searches
    (points spots : List Float) (index found words : List ℕ) (floats : List Float)
    (r : Searched) (found' words' : List ℕ) (floats' : List Float) : Type 0 where
  pub answers : Answers r (nearest_refusal points spots index (length words) (length floats) (length found))
  pub found_left : found' ≡ cond (eqb r.answer 0) (numbers_in points spots found) found
  pub words_left : words' ≡ swept 0 (checked points spots (length index) (length words) (length floats)) words
  pub floats_left : floats' ≡ swept (f32 0) (checked points spots (length index) (length words) (length floats)) floats

-- one spot, as a list of one: the nearest point and its distance, both 0 at a refusal
pub record Nears
    (points : List Float) (x y z : Float) (index words : List ℕ) (floats : List Float)
    (r : Nearest) (words' : List ℕ) (floats' : List Float) : Type 0 where
  pub answered : r.answer ≡ (nearest_refusal points (x ∷ y ∷ z ∷ []) index (length words) (length floats) 1).answer
  pub detailed : r.detail ≡ (nearest_refusal points (x ∷ y ∷ z ∷ []) index (length words) (length floats) 1).detail
  pub point_is : r.point ≡ cond (eqb r.answer 0) (nearest points (length points / 3) (point x y z)).number 0
  pub distance_is : r.distance ≡ cond (eqb r.answer 0) (nearest points (length points / 3) (point x y z)).distance
      (f32 0)
  pub words_left : words' ≡ swept 0 (checked points (x ∷ y ∷ z ∷ []) (length index) (length words) (length floats))
      words
  pub floats_left
      : floats' ≡ swept (f32 0) (checked points (x ∷ y ∷ z ∷ []) (length index) (length words) (length floats)) floats
