-- Faces in a slice, three numbers each, by their numbers. Definitions only.
use Rattle.std.specs.Prelude.{ℕ, zero, suc, ◌+◌, ◌*◌, List, [], ◌∷◌, get_or}
use Rattle.patch.specs.Lay.{Face, face}

-- face k
abbrev pub face_of : List ℕ → ℕ → Face
face_of slice k = face (get_or slice (3 * k) 0) (get_or slice (3 * k + 1) 0) (get_or slice (3 * k + 2) 0)

-- m faces, from number k on
unfoldable pub faces_from : List ℕ → ℕ → ℕ → List Face
faces_from slice k zero = []
faces_from slice k (suc m) = face_of slice k ∷ faces_from slice (k + 1) m
