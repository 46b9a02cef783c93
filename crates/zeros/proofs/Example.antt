-- A `min` that gives the second of two unlike zeros is one of those that the claim speaks of, and the least coordinate
-- does depend on it: so the claim is not empty. By computation.
use Prim.Native.Nat.{ℕ}
use mathlib.Core.Path.{◌≡◌, refl}
use mathlib.Core.Logic.{inr}
use mathlib.Core.Bool.{false, cond}
use mathlib.Core.List.{List, [], ◌∷◌}
use lib.Ieee.{Float, inf, neg, lt, is_nan, of_bits}
use Rattle.numbers.specs.Rounded.{f32}
use Rattle.numbers.specs.Order.{minimum}
use Rattle.grid.specs.Grid.{least_from}
use Rattle.zeros.specs.Zeros.{unlike_zeros, UpToZeros}
use Rattle.zeros.specs.Call.{least_from_by}

abbrev second : Float → Float → Float
second a b = cond (unlike_zeros a b) b (minimum a b)

second_zero : UpToZeros minimum second
second_zero = record { either = λ a b e. inr (rw e); else = λ a b e. rw e }

-- two points at +0 and at -0
abbrev zeros : List Float
zeros = f32 0 ∷ f32 0 ∷ f32 0 ∷ neg (f32 0) ∷ neg (f32 0) ∷ neg (f32 0) ∷ []

differ : (least_from zeros (inf false) 0 2 ≡ f32 0) ×
    (least_from_by (λ (k : ℕ). second) zeros (inf false) 0 2 ≡ neg (f32 0))
unfolding least_from least_from_by minimum unlike_zeros is_nan lt neg of_bits
differ = (refl, refl)
