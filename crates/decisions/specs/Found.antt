-- What the code works out on the way to the definition's answers. Definitions only.
use Rattle.std.specs.Prelude.{ℕ, ◌≡◌, false, cond, List, Float}
use Rattle.std.proofs.Math.Option.{Option, none, some}
use Rattle.std.specs.Float.Ieee.{le}
use Rattle.triangle.specs.Quality.{area}
use Rattle.quality.specs.Inner.Shape.{shape_of, quality_of}
use Rattle.quality.specs.declared.Shape.{Shape}
use Rattle.quality.specs.declared.TriangleQuality.{TriangleQuality}
use Rattle.points.specs.Points.{point_at}
use Rattle.decisions.specs.Decisions.{accepts}
use Rattle.decisions.specs.declared.Scene.{Scene}

-- a score, if it is not below `top`
unfoldable pub at_least : Float → Option Float → Option Float
at_least top none = none
at_least top (some x) = cond (le top x) (some x) none

-- the area of the triangle of three points
unfoldable pub area_at : List Float → ℕ → ℕ → ℕ → Float
area_at pts i j k = area (point_at pts i) (point_at pts j) (point_at pts k)

-- the score of a triangle that the settings accept at a radius
unfoldable pub accepted_score : Scene → Float → TriangleQuality → Option Float
accepted_score s r q = cond (accepts s r q) (some q.quality_score) none

-- the settings accept no triangle of a shape at a radius
abbrev pub ShapeRefused : Scene → Float → Shape → Type 0
ShapeRefused s r v = (a b c area : Float) → v ≡ shape_of a b c area → accepts s r (quality_of a b c area) ≡ false
