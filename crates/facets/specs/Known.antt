-- Which faces name points alone. Definitions only.
use Rattle.std.specs.Prelude.{ℕ, ◌+◌, ◌*◌, ◌<◌, Bool, true, ◌&&◌, List, [], ◌∷◌, ltb, length, get_or, Float}

-- every number is below a bound
unfoldable pub all_below : ℕ → List ℕ → Bool
all_below bound [] = true
all_below bound (f ∷ fs) = ltb f bound && all_below bound fs

-- every number of the faces names a point
pub record NamesPoints (points : List Float) (faces : List ℕ) : Type 0 where
  pub known : (k : ℕ) → k < length faces → 3 * get_or faces k 0 + 2 < length points
