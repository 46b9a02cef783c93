-- Where the faces of the plain path come from. Definitions only.
use Rattle.std.specs.Prelude.{ℕ, List, [], ◌∷◌}
use Rattle.words.specs.Chunks.{chunks}

-- a plain face names itself as its parent, and place 0
abbrev pub plain_origin : ℕ → List ℕ
plain_origin k = k ∷ 0 ∷ []

-- of so many faces, two numbers each
unfoldable pub plain_origins : ℕ → List ℕ
plain_origins count = chunks plain_origin 0 count
