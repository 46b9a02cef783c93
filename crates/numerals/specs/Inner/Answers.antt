-- What an answer stands for. Definitions only.
use Rattle.std.specs.Prelude.{ℕ, ◌+◌, if◌then◌else◌, List, drop, Option, Some, None}
use Rattle.numerals.specs.Format.{Parsed, parsed, malformed, digits, few}

-- a value and the place behind it stand for the value and the bytes s from there on
unfoldable pub taken_means : {A : Type 0} → List ℕ → Option (A × ℕ) → Parsed A
taken_means s (Some r) = parsed r.0 (drop r.1 s)
taken_means s None = malformed

-- the place behind what was read, 0 where there is none
unfoldable pub taken_end : {A : Type 0} → Option (A × ℕ) → ℕ
taken_end (Some r) = r.1
taken_end None = 0

-- the place behind 1 to most digits at a place of the bytes s
unfoldable pub skipped_digits : List ℕ → ℕ → ℕ → Option ℕ
unfolding digits few
skipped_digits s at most =
    let count = digits (drop at s) in if few count most then Some (at + count) else None
