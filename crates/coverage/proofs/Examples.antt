-- Marks that are computed: a number that stands twice counts once, one beyond the points marks none. Assumes nothing.
use mathlib.Core.Path.{◌≡◌, refl}
use mathlib.Core.List.{[], ◌∷◌}
use lib.Dec.{eqb}
use Rattle.coverage.specs.Coverage.{mark, marks, reached_marks}
use Rattle.lists.specs.Lists.{count, any}

two_of_four : reached_marks (0 ∷ 2 ∷ 2 ∷ 4 ∷ []) 4 ≡ 1 ∷ 0 ∷ 1 ∷ 0 ∷ []
unfolding mark marks reached_marks any
two_of_four = refl

counted_twice : count (eqb 1) (reached_marks (0 ∷ 2 ∷ 2 ∷ 4 ∷ []) 4) ≡ 2
unfolding mark marks reached_marks any
counted_twice = refl

-- no faces, and no points
nothing : (reached_marks [] 2 ≡ 0 ∷ 0 ∷ []) × (reached_marks (0 ∷ []) 0 ≡ [])
unfolding mark marks reached_marks any
nothing = (refl, refl)
