-- The index of a cloud: the calls that build it and that tell whether one belongs to a cloud. Definitions only.
use Rattle.std.specs.Prelude.{ℕ, ◌/◌, ◌*◌, ◌+◌, ◌≤◌, Bool, false, cond, ◌≡◌, List, [], ◌∷◌, ◌++◌, leb, eqb, length, drop, Float}
use Rattle.answers.specs.Answers.{short_work}
use Rattle.numbers.specs.Rounded.{f32}
use Rattle.domain.specs.declared.Refusal.{Refusal}
use Rattle.domain.specs.Refusals.{check, first_refusal, points_checks, work_checks}
use Rattle.domain.specs.Inner.Accepted.{Cloud}
use Rattle.clearing.specs.Swept.{swept}
use Rattle.kd_tree.specs.Tree.{index_size, built, belongs}
use Rattle.point_index.specs.declared.Indexed.{Indexed}
use Rattle.point_index.specs.declared.Belongs.{Belongs}

-- 1 to 4 as for the estimate, then 7: for work as in the scope, and for an index of fewer than 8n + 64 numbers
unfoldable pub index_refusal : List Float → ℕ → ℕ → ℕ → Refusal
index_refusal points index words floats =
    let n = length points / 3 in
    first_refusal
    (points_checks points ++ (work_checks n words floats ++ (check (leb (index_size n) index) short_work 0 ∷ [])))

-- whether the checks pass, for slices of these lengths
abbrev pub index_accepted : List Float → ℕ → ℕ → ℕ → Bool
index_accepted points index words floats = eqb (index_refusal points index words floats).answer 0

-- an accepted cloud, with room for its index and for the work on it
pub record Fits (points : List Float) (index floats : ℕ) : Type 0 where
  pub cloud : Cloud (length points / 3) points
  pub index_enough : index_size (length points / 3) ≤ index
  pub floats_enough : 4 * (length points / 3) + 64 ≤ floats

-- building: the checks' answer; the index's first 8n + 64 numbers are the cloud's and the others stay, at a refusal all
-- of them do; the work slices end as zeros once the checks have passed
pub record Builds
    (points : List Float) (index words : List ℕ) (floats : List Float)
    (r : Indexed) (index' words' : List ℕ) (floats' : List Float) : Type 0 where
  pub answered : r.answer ≡ (index_refusal points (length index) (length words) (length floats)).answer
  pub detailed : r.detail ≡ (index_refusal points (length index) (length words) (length floats)).detail
  pub index_left : index' ≡ cond (index_accepted points (length index) (length words) (length floats))
      (built points ++ drop (index_size (length points / 3)) index) index
  pub words_left : words' ≡ swept 0 (index_accepted points (length index) (length words) (length floats)) words
  pub floats_left : floats' ≡ swept (f32 0) (index_accepted points (length index) (length words) (length floats)) floats

-- asking: the checks' answer, and whether the index is the cloud's, which is no at a refusal; the work slices as above
pub record Tells
    (points : List Float) (index words : List ℕ) (floats : List Float)
    (r : Belongs) (words' : List ℕ) (floats' : List Float) : Type 0 where
  pub answered : r.answer ≡ (index_refusal points (length index) (length words) (length floats)).answer
  pub detailed : r.detail ≡ (index_refusal points (length index) (length words) (length floats)).detail
  pub told : r.belongs ≡ cond (index_accepted points (length index) (length words) (length floats))
      (belongs points index)
      false
  pub words_left : words' ≡ swept 0 (index_accepted points (length index) (length words) (length floats)) words
  pub floats_left : floats' ≡ swept (f32 0) (index_accepted points (length index) (length words) (length floats)) floats
