-- Parents and places in one pass over the faces of a patch in the order in which they were laid, as the code finds
-- them: see the law `pass_parents`. For contracts inside. Definitions only.
use Rattle.std.specs.Prelude.{ℕ, ◌+◌, ◌-◌, max, Bool, cond, not, List, [], ◌∷◌, eqb, ltb, get_or, set, replicate}
use Rattle.lists.specs.Lists.{count}
use Rattle.patch.specs.Lay.{Face}

-- `brought` has of each point the number of the face that brought it in, plus 1, or 0 where no face has it yet;
-- a face is a seed if its first point is new
abbrev pub is_seed : List ℕ → Face → Bool
is_seed brought f = eqb (get_or brought f.a 0) 0

-- the parent of face k: itself for a seed, else the later of the two faces that brought in its first two points
unfoldable pub parent_at : ℕ → List ℕ → Face → ℕ
parent_at k brought f =
    cond (is_seed brought f) k (max (get_or brought f.a 0) (get_or brought f.b 0) - 1)

-- face k brings in its third point, and a seed all three
unfoldable pub brought_after : ℕ → List ℕ → Face → List ℕ
brought_after k brought f =
    let three = set (set (set brought f.a (k + 1)) f.b (k + 1)) f.c (k + 1) in
    cond (is_seed brought f) three (set brought f.c (k + 1))

-- the parents of the faces from number k on
unfoldable pub parents_from : ℕ → List ℕ → List Face → List ℕ
parents_from k brought [] = []
parents_from k brought (f ∷ fs) = parent_at k brought f ∷ parents_from (k + 1) (brought_after k brought f) fs

-- of all faces, over n points
abbrev pub parents_pass : ℕ → List Face → List ℕ
parents_pass n fs = parents_from 0 (replicate n 0) fs

-- the place of face k's radius, where the marks are the numbers of faces after each radius: how many of them are
-- at most k
unfoldable pub place_of : List ℕ → ℕ → ℕ
place_of marks k = count (λ m. not (ltb k m)) marks

-- parent and place of each face from number k on, two numbers a face
unfoldable pub origins_from : List ℕ → ℕ → List ℕ → List Face → List ℕ
origins_from marks k brought [] = []
origins_from marks k brought (f ∷ fs) =
    parent_at k brought f ∷ place_of marks k ∷ origins_from marks (k + 1) (brought_after k brought f) fs

-- of all faces, over n points
abbrev pub origins_pass : List ℕ → ℕ → List Face → List ℕ
origins_pass marks n fs = origins_from marks 0 (replicate n 0) fs
