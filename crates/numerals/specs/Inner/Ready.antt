-- What the inner functions require.
use Rattle.std.specs.Prelude.{ℕ, ◌-◌, ◌≤◌, List, drop}
use Rattle.numerals.specs.Format.{digits}

-- the bytes from at to end are digits, six at most
pub record Digits (s : List ℕ) (at end : ℕ) : Type 0 where
  pub ordered : at ≤ end
  pub few : end - at ≤ 6
  pub all : end - at ≤ digits (drop at s)
