-- The map of the lent work slices, for n points. Definitions only.
use Rattle.std.specs.Prelude.{ℕ, ◌+◌, ◌*◌, ◌≤◌, List, [], ◌∷◌, take, drop}

-- a region's start and length
pub record Region : Type 0 where
  pub start : ℕ
  pub size : ℕ

-- ---- the u32 slice

-- how many words are lent
abbrev pub words_length : ℕ → ℕ
words_length n = 24 * n + 64

-- the front: the candidates that the plain path lists; and, once a patch is laid and all words are cleared, of each
-- point the face that brought it in, and then of each face which way it looks
abbrev pub front_at : ℕ → ℕ
front_at n = 0

-- the cell of each point, three numbers to a point
abbrev pub cells_at : ℕ → ℕ
cells_at n = n

-- the neighbours that were asked for last
abbrev pub neighbors_at : ℕ → ℕ
neighbors_at n = 4 * n

-- of each point whether it is used
abbrev pub used_at : ℕ → ℕ
used_at n = 5 * n

abbrev pub used_in : ℕ → List ℕ → List ℕ
used_in n w = take n (drop (used_at n) w)

-- the entries that wait
abbrev pub frontier_at : ℕ → ℕ
frontier_at n = 6 * n

-- where they end
abbrev pub frontier_end : ℕ → ℕ
frontier_end n = 9 * n

-- the spatial hash: of each point the next one in its bucket while the hash is built, and whether it was taken out
abbrev pub links_at : ℕ → ℕ
links_at n = 9 * n

-- how many buckets there may be
abbrev pub bucket_room : ℕ → ℕ
bucket_room n = 6 * n + 64

-- of each bucket its first point while the hash is built, and where its points start in the order
abbrev pub starts_at : ℕ → ℕ
starts_at n = 10 * n

-- the points in the order of their buckets
abbrev pub order_at : ℕ → ℕ
order_at n = 16 * n + 64

-- where the order ends: the words from here on are free
abbrev pub words_end : ℕ → ℕ
words_end n = 17 * n + 64

abbrev pub words : ℕ → List Region
words n =
    record { start = front_at n; size = n }
    ∷ record { start = cells_at n; size = 3 * n }
    ∷ record { start = neighbors_at n; size = n }
    ∷ record { start = used_at n; size = n }
    ∷ record { start = frontier_at n; size = 3 * n }
    ∷ record { start = links_at n; size = n }
    ∷ record { start = starts_at n; size = bucket_room n }
    ∷ record { start = order_at n; size = n }
    ∷ []

-- ---- the f32 slice

-- how many numbers are lent
abbrev pub floats_length : ℕ → ℕ
floats_length n = 4 * n + 64

-- the samples' densities, or their least distances; on the plain path the candidates' distances
abbrev pub samples_at : ℕ → ℕ
samples_at n = 0

-- the least distances of one sample
abbrev pub least_at : ℕ → ℕ
least_at n = n

-- the radii
abbrev pub radii_at : ℕ → ℕ
radii_at n = n + 10

-- where they end: the numbers from here on are free
abbrev pub radii_end : ℕ → ℕ
radii_end n = n + 27

abbrev pub floats : ℕ → List Region
floats n =
    record { start = samples_at n; size = n } ∷ record { start = least_at n; size = 10 }
    ∷ record { start = radii_at n; size = 17 } ∷ []

-- ---- what is claimed of a map

-- each region starts where the one before it ended, or after it, and the last one ends within the slice
abbrev pub Apart : ℕ → ℕ → List Region → Type 0
Apart from end [] = from ≤ end
Apart from end (r ∷ rs) = (from ≤ r.start) × Apart (r.start + r.size) end rs
