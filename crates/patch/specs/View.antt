-- Faces in a lent slice that may be too short for them. Definitions only.
use Rattle.std.specs.Prelude.{ℕ, ◌/◌, List, [], ◌∷◌, ◌++◌, length, take, drop}
use Rattle.patch.specs.Lay.{Face}

-- the faces' points, three to a face
unfoldable pub flat : List Face → List ℕ
flat [] = []
flat (f ∷ fs) = f.a ∷ f.b ∷ f.c ∷ flat fs

-- as many of the faces as fit stand in front of a slice; the rest of it is unchanged
unfoldable pub written : List Face → List ℕ → List ℕ
written fs slice = let front = flat (take (length slice / 3) fs) in front ++ drop (length front) slice
