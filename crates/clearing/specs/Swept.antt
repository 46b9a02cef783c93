-- What a lent work slice holds after a call. Definitions only.
use Rattle.std.specs.Prelude.{Bool, cond, List, length, replicate}

-- all zeros once the checks have passed, untouched before that; for any kind of number
unfoldable pub swept : {A : Type 0} → A → Bool → List A → List A
swept zero_of passed xs = cond passed (replicate (length xs) zero_of) xs
