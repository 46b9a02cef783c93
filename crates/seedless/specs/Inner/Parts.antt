-- Parts of the search for a seed. Definitions only.
use Rattle.std.specs.Prelude.{ℕ, true, false, List}
use Rattle.std.proofs.Math.Option.{Option, none}
use Rattle.patch.specs.Search.{Floats, is_second, third_of, second_of}

module _ {R : Type 0} (floats : Floats R) (r : R) (used : List ℕ) where
  -- the seed with j as the second point, the third being looked for among ks
  unfoldable pub with_second : ℕ → List ℕ → ℕ → Option (ℕ × ℕ × ℕ)
  with_second i ks j = elim (is_second floats r used i j) [ true ↦ third_of floats r used i j ks | false ↦ none ]

  -- the seed with i as the first point
  unfoldable pub with_first : ℕ → Option (ℕ × ℕ × ℕ)
  with_first i = second_of floats r used i (floats.near r i) (floats.near r i)
