-- A number that may be missing. Definitions only.
use Rattle.std.specs.Prelude.{ℕ, zero, suc, min, cond, ltb, Option, Some, None}

-- k where it is below n
abbrev pub some_below : ℕ → ℕ → Option ℕ
some_below n k = cond (ltb k n) (Some k) None

-- k where it is not 0
abbrev pub some_number : ℕ → Option ℕ
some_number zero = None
some_number (suc k) = Some (suc k)

-- the first of those that are there
abbrev pub first_there : Option ℕ → Option ℕ → Option ℕ
first_there None q = q
first_there (Some p) None = Some p
first_there (Some p) (Some q) = Some (min p q)
