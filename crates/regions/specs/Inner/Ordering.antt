-- The map of the lent u32 slice while the faces of a patch are put in order, for n points. Definitions only.
use Rattle.std.specs.Prelude.{ℕ, ◌*◌, List, [], ◌∷◌}
use Rattle.regions.specs.Inner.Regions.{Region}

-- the faces, three words to a face
abbrev pub face_words_at : ℕ → ℕ
face_words_at n = 0

-- of each corner the one before it at the same point
abbrev pub corners_at : ℕ → ℕ
corners_at n = 3 * n

-- of each point its last corner
abbrev pub heads_at : ℕ → ℕ
heads_at n = 6 * n

-- where they end
abbrev pub heads_end : ℕ → ℕ
heads_end n = 7 * n

-- of each point whether it is reached
abbrev pub reached_words_at : ℕ → ℕ
reached_words_at n = 7 * n

-- the tree of least values
abbrev pub tree_at : ℕ → ℕ
tree_at n = 8 * n

-- where it ends
abbrev pub tree_end : ℕ → ℕ
tree_end n = 10 * n

-- the order while it is found
abbrev pub placed_at : ℕ → ℕ
placed_at n = 10 * n

-- where it ends: the words from here on are free
abbrev pub placed_end : ℕ → ℕ
placed_end n = 11 * n

abbrev pub ordering_words : ℕ → List Region
ordering_words n =
    record { start = face_words_at n; size = 3 * n }
    ∷ record { start = corners_at n; size = 3 * n }
    ∷ record { start = heads_at n; size = n }
    ∷ record { start = reached_words_at n; size = n }
    ∷ record { start = tree_at n; size = 2 * n }
    ∷ record { start = placed_at n; size = n }
    ∷ []
