-- What the floats say of a cloud's points: the decisions of the scope's Laying. Definitions only.
use Rattle.std.specs.Prelude.{ℕ, Bool, cond, not, ◌&&◌, List, Float}
use Rattle.std.proofs.Math.Option.{Option, none, some}
use Rattle.std.specs.Float.Ieee.{lt, le}
use Rattle.numbers.specs.Rounded.{f32, ◌⊕◌, ◌⊗◌}
use Rattle.vector.specs.Vector.{distance}
use Rattle.triangle.specs.Quality.{quality, acceptable}
use Rattle.vector.specs.declared.Point3f.{Point3f}
use Rattle.quality.specs.declared.TriangleQuality.{TriangleQuality}
use Rattle.points.specs.Points.{point_at}
use Rattle.grid.specs.Grid.{neighbors}
use Rattle.patch.specs.Lay.{Edge}
use Rattle.patch.specs.Search.{Floats}
use Rattle.decisions.specs.declared.Scene.{Scene}

-- twice the radius
abbrev pub reach : Float → Float
reach r = r ⊗ f32 0x40000000

-- how far two points are from each other
unfoldable pub apart : List Float → ℕ → ℕ → Float
apart pts i j = distance (point_at pts i) (point_at pts j)

unfoldable pub quality_at : List Float → ℕ → ℕ → ℕ → TriangleQuality
quality_at pts i j k = quality (point_at pts i) (point_at pts j) (point_at pts k)

-- two points are not farther apart than twice the radius
unfoldable pub is_close : List Float → Float → ℕ → ℕ → Bool
is_close pts r i j = not (lt (reach r) (apart pts i j))

-- the settings accept a triangle at a radius
unfoldable pub accepts : Scene → Float → TriangleQuality → Bool
accepts s r q = acceptable q r s.min_triangle_area s.quality_threshold s.max_edge_factor

abbrev pub halfway : Float → Float → Float
halfway x y = (x ⊕ y) ⊗ f32 0x3f000000

-- the middle of two points
unfoldable pub middle : Point3f → Point3f → Point3f
middle p q = record { x = halfway p.x q.x; y = halfway p.y q.y; z = halfway p.z q.z }

-- the neighbours of a place at a radius
unfoldable pub around : Scene → List Float → Point3f → Float → List ℕ
around s pts p r = neighbors s.indexed s.grid pts s.n p r

-- an edge neither longer than twice the radius nor shorter than 1e-10
unfoldable pub pivotable : List Float → Float → Edge → Bool
pivotable pts r e = let d = apart pts e.v2 e.v1 in not (lt (reach r) d) && not (lt d (f32 0x2edbe6ff))

-- the score of an edge and a point that is within the radius of both ends, if the triangle is acceptable
unfoldable pub score_at : Scene → List Float → Float → Edge → ℕ → Option Float
score_at s pts r e k =
    let q = quality_at pts e.v1 e.v2 k in
    cond (le (apart pts k e.v1) r && (le (apart pts k e.v2) r && accepts s r q)) (some q.quality_score) none

-- what the searches go by
unfoldable pub floats_of : Scene → List Float → Floats Float
floats_of s pts = record {
  near = λ r i. around s pts (point_at pts i) (reach r);
  close = λ r i j. is_close pts r i j;
  fits = λ r i j k. accepts s r (quality_at pts i j k);
  pivotable = λ r e. pivotable pts r e;
  around = λ r e. around s pts (middle (point_at pts e.v1) (point_at pts e.v2)) r;
  score = λ r e k. score_at s pts r e k;
}
