-- The points of a triple that is judged, as they are asked one by one. Definitions only.
use Rattle.std.specs.Prelude.{ℕ, ◌<◌, ◌≡◌, Bool, true, false, not, ◌&&◌, List, eqb, Float}
use Rattle.points.specs.Points.{point_at}
use Rattle.lists.specs.Lists.{any, unused}
use Rattle.grid.specs.Grid.{range_of}
use Rattle.grid.specs.Inner.Index.{Cells}
use Rattle.spatial_hash.specs.declared.Hash.{Hash}
use Rattle.spatial_hash.specs.Inner.Near.{Hashed}
use Rattle.decisions.specs.declared.Scene.{Scene}
use Rattle.decisions.specs.Decisions.{reach, is_close, floats_of}
use Rattle.nearby.specs.declared.Filter.{Filter}
use Rattle.nearby.specs.Inner.Ready.{SceneHeld, used_in_scene}
use Rattle.nearby.specs.Inner.Narrow.{in_cells, cell_at, Filters}
use Rattle.reaching.specs.Triple.{Reaches}

-- k is another point than i, its cell makes it a neighbour of i, and it is close to i
unfoldable pub is_beside : Scene → List Float → Float → ℕ → ℕ → Bool
is_beside s pts r i k =
    not (eqb i k)
    && (in_cells s.indexed s.grid pts (range_of s.grid (reach r)) (cell_at s.grid pts i) k
    && is_close pts r i k)

-- and it is another point than j, and close to it
unfoldable pub is_beside_both : Scene → List Float → Float → ℕ → ℕ → ℕ → Bool
is_beside_both s pts r i j k = not (eqb j k) && (is_beside s pts r i k && is_close pts r j k)

-- j is beside i, and one of the points ks is beside both
unfoldable pub has_third : Scene → List Float → Float → List ℕ → ℕ → ℕ → Bool
has_third s pts r ks i j = is_beside s pts r i j && any (is_beside_both s pts r i j) ks

-- the filter is for the neighbours of point i at twice the radius
pub record FilterAround (s : Scene) (pts : List Float) (w : List ℕ) (r : Float) (f : Filter) (i : ℕ) : Type 0 where
  pub held : SceneHeld s pts w
  pub cells : Cells s.grid pts s.n w
  pub inside : i < s.n
  pub filters : Filters s (point_at pts i) (point_at pts i) (reach r) f

-- the points are indexed and hashed, and none is used
pub record Fresh (s : Scene) (hash : Hash) (pts : List Float) (w : List ℕ) : Type 0 where
  pub held : SceneHeld s pts w
  pub cells : Cells s.grid pts s.n w
  pub hashed : Hashed hash pts s.n w
  pub none_used : (k : ℕ) → unused (used_in_scene s w) k ≡ true

-- b tells whether a triple is judged in which point i comes first
pub record TellsFirst (s : Scene) (pts : List Float) (r : Float) (i : ℕ) (b : Bool) : Type 0 where
  pub some : b ≡ true → Reaches (floats_of s pts) s.n r
  pub none : b ≡ false → (t : Reaches (floats_of s pts) s.n r) → t.i ≡ i → ⊥
