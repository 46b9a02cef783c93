-- The nearest of a list of points in any order, for contracts inside. Definitions only.
use Rattle.std.specs.Prelude.{◌≡◌, cond, List, [], ◌∷◌, ℕ, ◌+◌, ◌*◌, ◌<◌, T, ltb, Float, length, get_or}
use Rattle.std.specs.Float.{nan, binary32}
use Rattle.std.specs.Float.Ieee.{lt, fits}
use Rattle.lists.specs.Members.{In}
use Rattle.numbers.specs.Inner.Bounds.{unsigned}
use Rattle.numbers.specs.Root.{root}
use Rattle.bounds.specs.Inner.Within.{Limit}
use Rattle.nearest.specs.declared.Best.{Best}
use Rattle.nearest.specs.Scan.{Near}

-- the nearer, and the lower number on equality
unfoldable pub closer : Near → Float → ℕ → Near
closer best d number =
    cond (lt d best.distance) (record { distance = d; number = number })
    (cond (lt best.distance d) best
    (cond (ltb number best.number) (record { distance = d; number = number }) best))

-- the nearest of the best so far and a list
unfoldable pub scanned : (ℕ → Float) → List ℕ → Near → Near
scanned key [] best = best
scanned key (x ∷ xs) best = scanned key xs (closer best (key x) x)

-- numbers of points that are there
abbrev pub NumbersOfPoints : List Float → List ℕ → Type 0
NumbersOfPoints points xs = (v : ℕ) → In v xs → 3 * v + 2 < length points

-- a length as `distance` gives it
pub record Length (d : Float) : Type 0 where
  pub is_f32 : T (fits binary32 d)
  pub sign : T (unsigned d)

abbrev pub near_of_best : Best → Near
near_of_best best = record { distance = root best.square; number = best.number }

-- the best one whose square and limit stand in two floats
abbrev pub best_in : List Float → ℕ → Best
best_in best number = record { square = get_or best 0 nan; number = number; limit = get_or best 1 nan }

-- the square is an f32, and each square above the limit has a greater root
pub record BestLimited (best : Best) : Type 0 where
  pub is_f32 : T (fits binary32 best.square)
  pub above : Limit (root best.square) best.limit

-- what is kept stands for the one found, and its limit is one of its square
pub record KeepsBest (best : Best) (found : Near) : Type 0 where
  pub found_is : near_of_best best ≡ found
  pub limited : BestLimited best
