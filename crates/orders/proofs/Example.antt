-- The definitions computed on small lists of faces. Assumes nothing.
use Prim.Native.Nat.{ℕ}
use mathlib.Core.Path.{◌≡◌, refl}
use mathlib.Core.Bool.{Bool, true, false}
use mathlib.Core.List.{List, [], ◌∷◌, map}
use lib.ListN.{replicate}
use Rattle.lists.specs.Lists.{any, up_from}
use Rattle.patch.specs.Lay.{same, Face, face}
use Rattle.patch.specs.Shape.{has, touches}
use Rattle.orders.specs.Order.{neighbours, reached, joined, fresh, fits, all_fit, first_or, without, greedy_from, greedy, order_accepted, crowded, seeds}

-- the test, the order and its seeds
abbrev said : List Face → Bool × List ℕ × ℕ
said fs = (order_accepted fs, greedy fs, seeds fs)

-- two patches, their faces mixed, some turned; nothing
taken : said (face 0 2 5 ∷ face 8 9 10 ∷ face 1 0 3 ∷ face 9 8 11 ∷ face 0 1 2 ∷ []) ∷ said [] ∷ [] ≡ (true, (0 ∷ 4 ∷ 2 ∷ 1 ∷ 3 ∷ []), 2) ∷ (true, [], 0) ∷ []
unfolding neighbours reached joined fresh fits all_fit first_or without greedy_from greedy order_accepted crowded seeds up_from has touches same any
taken = refl

-- three faces at an edge; two that share only a point; one twice; a closed tetrahedron; a ring of six
abbrev wrong : List (List Face)
wrong =
    (face 0 1 2 ∷ face 0 1 3 ∷ face 0 1 4 ∷ [])
    ∷ (face 0 1 2 ∷ face 2 3 4 ∷ [])
    ∷ (face 0 1 2 ∷ face 1 0 2 ∷ [])
    ∷ (face 0 1 2 ∷ face 0 1 3 ∷ face 0 2 3 ∷ face 1 2 3 ∷ [])
    ∷ (face 0 1 2 ∷ face 1 2 3 ∷ face 2 3 4 ∷ face 3 4 5 ∷ face 4 5 0 ∷ face 5 0 1 ∷ [])
    ∷ []

refused : map order_accepted wrong ≡ replicate 5 false
unfolding neighbours reached joined fresh fits all_fit first_or without greedy_from greedy order_accepted crowded seeds up_from has touches same any
refused = refl
