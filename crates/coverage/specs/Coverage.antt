-- Which of a cloud's points the faces reach, and how many. Faces are numbers of points, three a face, as the main
-- call leaves them. Definitions only.
use Rattle.std.specs.Prelude.{ℕ, zero, suc, ◌≡◌, List, [], ◌∷◌, eqb, length}
use Rattle.lists.specs.Lists.{bit, count, any}

-- 1 if some face has the point, else 0
unfoldable pub mark : List ℕ → ℕ → ℕ
mark faces p = bit (any (eqb p) faces)

-- the marks of n points, from the point p on
unfoldable pub marks : List ℕ → ℕ → ℕ → List ℕ
marks faces p zero = []
marks faces p (suc n) = mark faces p ∷ marks faces (suc p) n

-- the marks of a cloud of n points
unfoldable pub reached_marks : List ℕ → ℕ → List ℕ
reached_marks faces n = marks faces 0 n

-- what the call leaves and answers: a mark for each point that the slice has an entry for, and how many are 1; a number
-- beyond the entries marks none
pub record Marked (faces before : List ℕ) (answer : ℕ) (after : List ℕ) : Type 0 where
  pub marked : after ≡ reached_marks faces (length before)
  pub counted : answer ≡ count (eqb 1) (reached_marks faces (length before))
