-- What a pass that works out no number says of what stands at a place. Definitions only.
use Rattle.std.specs.Prelude.{ℕ, List, drop, Option, Some, None}
use Rattle.numerals.specs.Format.{Parsed, parsed, malformed}

-- what was parsed, without its value
unfoldable pub bare : {A : Type 0} → Parsed A → Parsed Unit
bare (parsed a rest) = parsed tt rest
bare malformed = malformed

-- a place behind something stands for the bytes s from there on
unfoldable pub skip_means : List ℕ → Option ℕ → Parsed Unit
skip_means s (Some next) = parsed tt (drop next s)
skip_means s None = malformed
