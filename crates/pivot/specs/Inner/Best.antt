-- The best of several points in any order: the highest score, and on equality the one that comes first in an order.
-- Definitions only.
use Rattle.std.specs.Prelude.{ℕ, Bool, false, cond, ◌&&◌, ◌||◌, List, [], ◌∷◌, Float}
use Rattle.std.proofs.Math.Option.{Option, none, some}
use Rattle.std.specs.Float.Ieee.{lt, le}
use Rattle.patch.specs.Lay.{Edge}
use Rattle.patch.specs.Search.{score_of}
use Rattle.decisions.specs.declared.Scene.{Scene}
use Rattle.decisions.specs.Decisions.{floats_of}
use Rattle.nearby.specs.declared.Filter.{Filter}
use Rattle.nearby.specs.Inner.Narrow.{in_cells}

-- k comes before the best so far, if there is one
abbrev pub is_before_best : (ℕ → ℕ → Bool) → ℕ → Option ℕ → Bool
is_before_best less k none = false
is_before_best less k (some j) = less k j

-- the score of k, if k becomes the best with it
unfoldable pub score_ahead : (ℕ → ℕ → Bool) → Float → Option ℕ → ℕ → Option Float → Option Float
score_ahead less top best k none = none
score_ahead less top best k (some x) = cond (le top x && (lt top x || is_before_best less k best)) (some x) none

-- the best of the points ks, given the best so far and its score
unfoldable pub leader : (ℕ → ℕ → Bool) → (ℕ → Option Float) → List ℕ → Float → Option ℕ → Option ℕ
leader less score [] top best = best
leader less score (k ∷ ks) top best =
    elim (score_ahead less top best k (score k)) [
      | none ↦ leader less score ks top best
      | some x ↦ leader less score ks x
          (some k)
    ]

-- the score of point k with an edge, if its cell is as a filter asks
unfoldable pub score_in : Scene → List Float → Float → List ℕ → Filter → Edge → ℕ → Option Float
score_in s pts r used f e k =
    cond (in_cells s.indexed s.grid pts f.range f.cell k) (score_of (floats_of s pts) r used e k) none
