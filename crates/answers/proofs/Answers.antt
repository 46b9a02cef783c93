-- The table of answers by computation: which numbers it has, in which order. Assumes nothing.
use Prim.Native.Nat.{ℕ}
use mathlib.Core.Path.{◌≡◌, refl}
use mathlib.Core.List.{List, [], ◌∷◌}
use Rattle.answers.specs.Answers.{Answer, answers}

unfoldable pub numbers : List Answer → List ℕ
numbers [] = []
numbers (a ∷ rest) = a.number ∷ numbers rest

pub answers-numbers :
    numbers answers ≡ 0 ∷ 1 ∷ 2 ∷ 3 ∷ 4 ∷ 5 ∷ 6 ∷ 7 ∷ 8 ∷ 9 ∷ 10 ∷ 11 ∷ 12 ∷ 13 ∷ 14 ∷ 15 ∷ 16 ∷ 17 ∷ 18 ∷ 19 ∷ 20 ∷ 21 ∷ 22 ∷ 23 ∷ 24 ∷ []
unfolding numbers answers
answers-numbers = refl
