-- What holds of each number of a list. Definitions only.
use Rattle.std.specs.Prelude.{List, [], ◌∷◌, Float}

-- each element is such
abbrev pub All : (Float → Type 0) → List Float → Type 0
All P [] = Unit {0}
All P (x ∷ xs) = P x × All P xs
