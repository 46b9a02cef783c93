-- Which numbers stand in a list, and those that pass a test. For contracts inside: the main call's statement
-- cites none of it. Definitions only.
use Rattle.std.specs.Prelude.{ℕ, ◌≤◌, ◌<◌, Bool, cond, List, [], ◌∷◌, eqb}
use Rattle.lists.specs.Lists.{count}

-- k stands in xs
abbrev pub In : ℕ → List ℕ → Type 0
In k xs = 1 ≤ count (eqb k) xs

-- whatever stands there is below n
abbrev pub Below : ℕ → List ℕ → Type 0
Below n ks = (k : ℕ) → In k ks → k < n

-- those of the numbers that pass a test
unfoldable pub only : (ℕ → Bool) → List ℕ → List ℕ
only test [] = []
only test (k ∷ ks) = let later = only test ks in cond (test k) (k ∷ later) later
