-- What writing leaves in a slice. Definitions only.
use Rattle.std.specs.Prelude.{◌≡◌, List, ◌++◌, ℕ, ◌+◌, Float, length, take}
use Rattle.kd_tree.specs.Tree.{split, boxes_of}

-- up to `at` a slice is as it was, and from there on stands a list
abbrev pub ListWritten : List Float → List Float → ℕ → List Float → Type 0
ListWritten before after at xs = take (at + length xs) after ≡ take at before ++ xs

-- a part has been split, and its boxes stand from `at` to r
pub record Splits (points : List Float) (order order' : List ℕ) (boxes boxes' : List Float) (at r : ℕ) : Type 0 where
  pub ordered : order' ≡ split points order
  pub ends : r ≡ at + length (boxes_of points order)
  pub boxed : ListWritten boxes boxes' at (boxes_of points order)
