-- How many elements of a list pass a test, numbers in their order, and flags. Definitions only.
use Rattle.std.specs.Prelude.{ℕ, zero, suc, ◌+◌, Bool, true, false, List, [], ◌∷◌, eqb, ltb, get_or}

abbrev pub bit : Bool → ℕ
bit true = 1
bit false = 0

abbrev pub count : {A : Type 0} → (A → Bool) → List A → ℕ
count p [] = 0
count p (x ∷ xs) = bit (p x) + count p xs

-- whether some element passes
unfoldable pub any : {A : Type 0} → (A → Bool) → List A → Bool
any p xs = ltb 0 (count p xs)

-- the numbers from i on, m of them: `up_from 0 n` are all points in number order
unfoldable pub up_from : ℕ → ℕ → List ℕ
up_from i zero = []
up_from i (suc m) = i ∷ up_from (i + 1) m

-- the flag of point k is not set
abbrev pub unused : List ℕ → ℕ → Bool
unused used k = eqb (get_or used k 0) 0
