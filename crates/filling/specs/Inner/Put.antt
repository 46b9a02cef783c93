-- What filling leaves in a slice. Definitions only.
use Rattle.std.specs.Prelude.{◌≡◌, List, ◌++◌, ℕ, ◌+◌, length, take, drop}

-- a slice has become what it was, but that from `at` on stands a list
pub record PutList (before after : List ℕ) (at : ℕ) (xs : List ℕ) : Type 0 where
  pub is : after ≡ take at before ++ (xs ++ drop (at + length xs) before)
