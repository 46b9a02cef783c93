-- The turned patch, and the claims about parents and about it. Definitions only.
use Rattle.std.specs.Prelude.{ℕ, suc, ◌<◌, ◌≡◌, Bool, true, false, ◌&&◌, List, [], ◌∷◌, eqb, length, get_or}
use Rattle.lists.specs.Lists.{count, any}
use Rattle.patch.specs.Lay.{Edge, edge, Face, edges_of}
use Rattle.patch.specs.Shape.{has, Shape}
use Rattle.orders.specs.Order.{face_at, swapped}
use Rattle.origins.specs.Sides.{looks_in}

-- the edge runs from x to y
abbrev pub exactly : ℕ → ℕ → Edge → Bool
exactly x y e = eqb x e.v1 && eqb y e.v2

-- an edge of the face runs from x to y
unfoldable pub runs : ℕ → ℕ → Face → Bool
runs x y f = any (exactly x y) (edges_of f)

-- those that look in swap their first two points
abbrev pub turned_face : Bool → Face → Face
turned_face true f = swapped f
turned_face false f = f

-- the faces from number k on
unfoldable pub turned_from : (ℕ → ℕ) → ℕ → List Face → List Face
turned_from parent k [] = []
turned_from parent k (f ∷ fs) = turned_face (looks_in parent k) f ∷ turned_from parent (suc k) fs

-- the turned patch, given the faces and the parent of each
unfoldable pub turned : List ℕ → List Face → List Face
turned parents fs = turned_from (λ i. get_or parents i 0) 0 fs

-- The claim about the parents of the faces fs, of each of which a flag says whether it is a seed.
pub record Traced (fs : List Face) (flags : List Bool) (parents : List ℕ) : Type 0 where
  pub long : length parents ≡ length fs
  -- a seed names itself
  pub seeds : (i : ℕ) → i < length fs → get_or flags i false ≡ true → get_or parents i 0 ≡ i
  -- every other parent comes earlier
  pub earlier : (i : ℕ) → i < length fs → get_or flags i false ≡ false → get_or parents i 0 < i
  -- and shares the pivoted edge, which is the face's first, in the same direction
  pub shares :
      (i : ℕ) → i < length fs → get_or flags i false ≡ false
      → runs (face_at fs i).a (face_at fs i).b (face_at fs (get_or parents i 0)) ≡ true

-- The claim about the turned faces ts, with the flags and numbers of the plain patch.
pub record OneWay (ts : List Face) (flags : List Bool) (F S looks pivots : ℕ) : Type 0 where
  -- an edge that lies in two faces runs once each way
  pub once :
      (x y : ℕ) → count (has (edge x y)) ts ≡ 2 → (count (runs x y) ts ≡ 1) × (count (runs y x) ts ≡ 1)
  -- all that is said of points, edges, looks and pivots
  pub shape : Shape ts flags F S looks pivots
