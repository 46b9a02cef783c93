-- Of the neighbours of a place those that a search has to look at. Definitions only.
use Rattle.std.specs.Prelude.{ℕ, ◌≤◌, ◌<◌, ◌≡◌, Bool, true, cond, not, ◌&&◌, ◌||◌, List, [], ◌∷◌, eqb, Float}
use Rattle.vector.specs.declared.Point3f.{Point3f}
use Rattle.points.specs.Points.{point_at}
use Rattle.sorting.specs.Insertion.{insert_before}
use Rattle.grid.specs.declared.SpatialGrid.{SpatialGrid}
use Rattle.grid.specs.declared.Cell.{Cell}
use Rattle.grid.specs.Grid.{cell_of, in_range, range_of, neighbors}
use Rattle.grid.specs.Inner.Index.{earlier}
use Rattle.bounds.specs.Inner.Within.{Limit}
use Rattle.lists.specs.Members.{only, Below}
use Rattle.sifting.specs.Inner.Sift.{is_within}
use Rattle.lists.specs.Lists.{count, unused}
use Rattle.decisions.specs.declared.Scene.{Scene}
use Rattle.nearby.specs.declared.Filter.{Filter}
use Rattle.nearby.specs.Inner.Ready.{used_in_scene, neighbors_listed, SceneKept}

-- each of the points ks that passes a test goes before the first one that it is less than
unfoldable pub insert_passing : (ℕ → ℕ → Bool) → (ℕ → Bool) → List ℕ → List ℕ → List ℕ
insert_passing less test sorted [] = sorted
insert_passing less test sorted (k ∷ ks) =
    insert_passing less test (cond (test k) (insert_before (less k) k sorted) sorted) ks

-- point k is unused, and the square of its distance from a place is not above a limit
unfoldable pub in_reach : List Float → List ℕ → Point3f → Float → ℕ → Bool
in_reach pts used p t k = unused used k && is_within pts p t k

-- the cell of point i
abbrev pub cell_at : SpatialGrid → List Float → ℕ → Cell
cell_at g pts i = cell_of g (point_at pts i)

-- the cell of point k lies within a range of a cell, if there is an index
unfoldable pub in_cells : Bool → SpatialGrid → List Float → ℕ → Cell → ℕ → Bool
in_cells indexed g pts range c k = not indexed || in_range range c (cell_at g pts k)

-- point k is as a filter asks
unfoldable pub passes_filter : Scene → List Float → List ℕ → Filter → ℕ → Bool
passes_filter s pts used f k = in_reach pts used f.center f.limit k
    && in_cells s.indexed s.grid pts f.range f.cell k

-- js are those of the points ks that are unused and within some limit of point a, and whoever is beyond it is farther
-- than r from a
pub record Nearby (pts : List Float) (used : List ℕ) (a : ℕ) (r : Float) (ks js : List ℕ) : Type 0 where
  pub limit : Float
  pub limits : Limit r limit
  pub same : js ≡ only (in_reach pts used (point_at pts a) limit) ks

-- ---- what the steps leave: w before, u after

-- f asks for the neighbours of q at radius r, of those that are unused the ones within r of p
pub record Filters (s : Scene) (p q : Point3f) (r : Float) (f : Filter) : Type 0 where
  pub center_is : f.center ≡ p
  pub limits : Limit r f.limit
  pub cell_is : f.cell ≡ cell_of s.grid q
  pub range_is : f.range ≡ range_of s.grid r

-- r points are listed, each once, and all unused ones within the filter's limit of its center and of q among them
pub record Collected (s : Scene) (pts : List Float) (f : Filter) (q : Point3f) (w u : List ℕ) (r : ℕ) : Type 0 where
  pub most : r ≤ s.n
  pub below : Below s.n (neighbors_listed s u r)
  pub once : (k : ℕ) → count (eqb k) (neighbors_listed s u r) ≤ 1
  pub complete : (k : ℕ) → k < s.n → unused (used_in_scene s w) k ≡ true → is_within pts f.center f.limit k ≡ true
      → is_within pts q f.limit k ≡ true → 1 ≤ count (eqb k) (neighbors_listed s u r)
  pub kept : SceneKept s w u

-- of the `found` points r are left, those that pass, inserted in turn
pub record Narrowed (s : Scene) (pts : List Float) (f : Filter) (w u : List ℕ) (found r : ℕ) : Type 0 where
  pub most : r ≤ found
  pub same : neighbors_listed s u r
      ≡ insert_passing (earlier s.indexed (cell_at s.grid pts)) (passes_filter s pts (used_in_scene s w) f) []
      (neighbors_listed s w found)
  pub kept : SceneKept s w u

-- r neighbours of place q are listed: all but some that are used or farther than the radius from point a
pub record Sought (s : Scene) (pts : List Float) (w u : List ℕ) (a : ℕ) (q : Point3f) (radius : Float) (r : ℕ)
    : Type 0 where
  pub most : r ≤ s.n
  pub nearby : Nearby pts (used_in_scene s w) a radius (neighbors s.indexed s.grid pts s.n q radius)
      (neighbors_listed s u r)
  pub kept : SceneKept s w u
