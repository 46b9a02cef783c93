-- Cells and buckets, and how a walk through them appends to a list. Definitions only.
use Rattle.std.specs.Prelude.{ℕ, zero, suc, ◌+◌, ◌*◌, ◌%◌, ◌≤◌, ◌<◌, ◌≡◌, Bool, true, false, List, [], ◌∷◌, ◌++◌, eqb, ltb, length, take, drop, get_or, Float}
use Rattle.numbers.specs.Rounded.{◌⊖◌, ◌⊗◌}
use Rattle.numbers.specs.Cut.{cut}
use Rattle.vector.specs.declared.Point3f.{Point3f}
use Rattle.points.specs.Points.{point_at}
use Rattle.regions.specs.Inner.Regions.{neighbors_at, used_at, links_at}
use Rattle.lists.specs.Lists.{count}
use Rattle.bucket_order.specs.Inner.Chains.{buckets_listed}
use Rattle.spatial_hash.specs.declared.Hash.{Hash}
use Rattle.spatial_hash.specs.declared.Span.{Span}

-- ---- buckets

-- the number of the cell that a coordinate is in, on one axis
unfoldable pub slot : Float → Float → Float → ℕ
slot scale least v = cut ((v ⊖ least) ⊗ scale)

-- a place's row of buckets: what its first two numbers leave when divided by the side, as one number
unfoldable pub row_for : Hash → Point3f → ℕ
row_for h p = slot h.scale h.least.x p.x % h.side * h.side + slot h.scale h.least.y p.y % h.side

-- its place there: what the third number leaves
unfoldable pub place_for : Hash → Point3f → ℕ
place_for h p = slot h.scale h.least.z p.z % h.side

-- a place's bucket; a row has one more than there are remainders, which stays empty
unfoldable pub bucket_of : Hash → Point3f → ℕ
bucket_of h p = row_for h p * (h.side + 1) + place_for h p

-- the bucket of point j
abbrev pub bucket_at : Hash → List Float → ℕ → ℕ
bucket_at h pts j = bucket_of h (point_at pts j)

abbrev pub buckets : Hash → ℕ
buckets h = h.side * h.side * (h.side + 1)

-- ---- who is in a bucket

-- the points' links
abbrev pub links_of : ℕ → List ℕ → List ℕ
links_of n w = drop (links_at n) w

-- point j was taken out of its bucket: its link is beyond that of every point
unfoldable pub is_out : ℕ → List ℕ → ℕ → Bool
is_out n ls j = ltb n (get_or ls j 0)

-- the bucket that point j is in, which is none of the hash's if it was taken out
unfoldable pub bucket_in : Hash → List Float → ℕ → List ℕ → ℕ → ℕ
bucket_in h pts n ls j = elim (is_out n ls j) [ true ↦ buckets h | false ↦ bucket_at h pts j ]

-- ---- the buckets that a walk visits

-- the remainder after r, from m - 1 back to 0
unfoldable pub next_residue : ℕ → ℕ → ℕ
next_residue m r = elim (eqb (r + 1) m) [ true ↦ 0 | false ↦ r + 1 ]

-- k remainders, from r on
unfoldable pub residues : ℕ → ℕ → ℕ → List ℕ
residues m r zero = []
residues m r (suc k) = r ∷ residues m (next_residue m r) k

abbrev pub spanned : ℕ → Span → List ℕ
spanned m s = residues m s.first s.count

-- remainders among which each number from a to b has its own
pub record Spanning (m a b : ℕ) (s : Span) : Type 0 where
  pub starts : s.first < m
  pub few : s.count ≤ m
  pub has : (v : ℕ) → a ≤ v → v ≤ b → 1 ≤ count (eqb (v % m)) (spanned m s)

-- p and each q as one number
unfoldable pub row : ℕ → ℕ → List ℕ → List ℕ
row m p [] = []
row m p (q ∷ qs) = (p * m + q) ∷ row m p qs

-- each p and each q as one number
unfoldable pub rows : ℕ → List ℕ → List ℕ → List ℕ
rows m [] qs = []
rows m (p ∷ ps) qs = row m p qs ++ rows m ps qs

-- the buckets of row p that have one of a span; of the rows with x and one of a span; of those with one of each of two
-- spans
abbrev pub row_of : ℕ → ℕ → Span → List ℕ
row_of m p zs = row (m + 1) p (spanned m zs)

abbrev pub plane_of : ℕ → ℕ → Span → Span → List ℕ
plane_of m x ys zs = rows (m + 1) (row m x (spanned m ys)) (spanned m zs)

abbrev pub buckets_of_box : ℕ → Span → Span → Span → List ℕ
buckets_of_box m xs ys zs = rows (m + 1) (rows m (spanned m xs) (spanned m ys)) (spanned m zs)

-- the n points of several buckets of a hash
abbrev pub points_in : Hash → List Float → ℕ → List ℕ → List ℕ → List ℕ
points_in h pts n ls bs = buckets_listed (bucket_in h pts n ls) n bs

-- ---- appending to the list of neighbours

-- js was appended to the first `at` neighbours, r of them in all, and nothing else changed: w before, u after
pub record Appended (n : ℕ) (w u : List ℕ) (at r : ℕ) (js : List ℕ) : Type 0 where
  pub total : r ≡ at + length js
  pub appended : take r (drop (neighbors_at n) u) ≡ take at (drop (neighbors_at n) w) ++ js
  pub before : take (neighbors_at n) u ≡ take (neighbors_at n) w
  pub after : drop (used_at n) u ≡ drop (used_at n) w
  pub length_same : length u ≡ length w
