-- What is known of the best point so far. Definitions only.
use Rattle.std.specs.Prelude.{ℕ, ◌<◌, ◌≡◌, Option, Some}
use Rattle.decisions.specs.declared.Scene.{Scene}

-- it is one of the cloud's, if there is one
abbrev pub MetPoint : Scene → Option ℕ → Type 0
MetPoint s p = (k : ℕ) → p ≡ Some k → k < s.n
