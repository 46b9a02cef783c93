-- The least squared distances from a sample to its neighbours, and when those that were looked at decide. Definitions
-- only.
use Rattle.std.specs.Prelude.{ℕ, ◌+◌, ◌≤◌, ◌<◌, ◌≡◌, Bool, false, cond, not, ◌&&◌, ◌||◌, List, [], ◌∷◌, eqb, ltb, length, take, drop, get_or, Float}
use Rattle.std.specs.Float.{nan, inf}
use Rattle.std.specs.Float.Ieee.{le}
use Rattle.vector.specs.Vector.{squared}
use Rattle.points.specs.Points.{point_at}
use Rattle.lists.specs.Lists.{up_from, count, bit}
use Rattle.sorting.specs.Sorted.{insert, sorted}
use Rattle.grid.specs.Grid.{in_range}
use Rattle.grid.specs.Inner.Index.{cell_in}
use Rattle.spatial_hash.specs.declared.Hash.{Hash}
use Rattle.spatial_hash.specs.Inner.Near.{HashedAll}
use Rattle.regions.specs.Inner.Regions.{neighbors_at, used_at, least_at, radii_at}
use Rattle.neighbor_squares.specs.declared.Around.{Around}

-- whether point j is a neighbour, by its kept cell
unfoldable pub is_neighbor_cell : Around → List ℕ → ℕ → ℕ → Bool
is_neighbor_cell a w n j = not a.indexed || in_range a.range a.cell (cell_in w n j)

-- a neighbour whose square is not above the limit
abbrev pub within_limit : Float → (ℕ → Bool) → List Float → ℕ → ℕ → Bool
within_limit limit near pts i j = near j && le (squared (point_at pts j) (point_at pts i)) limit

-- the squared distances from point i to the others among js that are near
unfoldable pub squares_to : (ℕ → Bool) → List Float → ℕ → List ℕ → List Float
squares_to near pts i [] = []
squares_to near pts i (j ∷ js) =
    let later = squares_to near pts i js in
    cond (not (eqb j i) && near j) (squared (point_at pts j) (point_at pts i) ∷ later) later

-- the up to 10 least of them, in rising order
unfoldable pub least_squares : (ℕ → Bool) → List Float → ℕ → List ℕ → List Float
least_squares near pts i js = take 10 (sorted (squares_to near pts i js))

-- the least squares, once point j has been looked at
unfoldable pub with_square : (ℕ → Bool) → List Float → ℕ → ℕ → List Float → List Float
with_square near pts i j kept =
    cond (not (eqb j i) && near j) (take 10 (insert (squared (point_at pts j) (point_at pts i)) kept)) kept

-- of ten least squares the last, and no limit where there are fewer
unfoldable pub tenth_of : List Float → ℕ → ℕ → Float
tenth_of f n kept = cond (eqb kept 10) (get_or f (least_at n + 9) nan) (inf false)

-- every point is listed, each once
abbrev pub Whole : ℕ → List ℕ → Type 0
Whole n js = (j : ℕ) → count (eqb j) js ≡ bit (ltb j n)

-- what a search for the least squares of point i needs
pub record Prepared (h : Hash) (pts : List Float) (n i : ℕ) (w : List ℕ) (f : List Float) : Type 0 where
  pub inside : i < n
  pub room : radii_at n ≤ length f
  pub hashed : HashedAll h pts n w

-- the r numbers in the region of the least distances are the least squares from point i to its other neighbours, of all
-- points
abbrev pub Decided : Around → List Float → ℕ → ℕ → List ℕ → List Float → ℕ → Type 0
Decided a pts n i w f r = take r (drop (least_at n) f) ≡ least_squares (is_neighbor_cell a w n) pts i (up_from 0 n)

-- what changes in the slices, w to u and f to g, while a sample's squares are looked for: the list of neighbours, and
-- the region of the least distances
pub record SquaresKept (n : ℕ) (w u : List ℕ) (f g : List Float) : Type 0 where
  pub front : take (least_at n) g ≡ take (least_at n) f
  pub before : take (neighbors_at n) u ≡ take (neighbors_at n) w
  pub after : drop (used_at n) u ≡ drop (used_at n) w

-- a look from point i decides if it found ten squares
pub record LookedForTen (a : Around) (pts : List Float) (n i : ℕ) (w u : List ℕ) (f g : List Float) (r : ℕ)
    : Type 0 where
  pub few : r ≤ 10
  pub full : r ≡ 10 → Decided a pts n i u g r
  pub kept : SquaresKept n w u f g

pub record SquaresFound (a : Around) (pts : List Float) (n i : ℕ) (w u : List ℕ) (f g : List Float) (r : ℕ)
    : Type 0 where
  pub few : r ≤ 10
  pub decided : Decided a pts n i u g r
  pub kept : SquaresKept n w u f g
