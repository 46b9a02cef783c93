-- The score of a point over an edge, from lengths, and the limit by which a triangle is too thin to reach a score.
-- Definitions only.
use Rattle.std.specs.Prelude.{cond, ◌&&◌, Float}
use Rattle.std.proofs.Math.Option.{Option, none, some}
use Rattle.std.specs.Float.Ieee.{le}
use Rattle.numbers.specs.Root.{root}
use Rattle.vector.specs.Vector.{squared, distance}
use Rattle.vector.specs.declared.Point3f.{Point3f}
use Rattle.triangle.specs.Quality.{area}
use Rattle.quality.specs.Inner.Shape.{quality_of}
use Rattle.score_bounds.specs.Inner.Bound.{AspectLimit}
use Rattle.thin.specs.Inner.Thin.{ThinLimit}
use Rattle.decisions.specs.Decisions.{accepts}
use Rattle.decisions.specs.declared.Scene.{Scene}
use Rattle.scores.specs.declared.Side.{Side}

-- the edge between two points
abbrev pub edge_side : Point3f → Point3f → Side
edge_side p q = record { p = p; q = q; square = squared q p; length = root (squared q p) }

-- the score of a triangle with edges of lengths a, b and c, if b and c are within the radius and the triangle is
-- acceptable
unfoldable pub score_near : Scene → Float → Float → Float → Float → Float → Option Float
score_near s r a b c area =
    cond (le c r && (le b r && accepts s r (quality_of a b c area))) (some (quality_of a b c area).quality_score) none

-- the score of the edge from p to q with point t
unfoldable pub score_over : Scene → Float → Point3f → Point3f → Point3f → Option Float
score_over s r p q t = score_near s r (distance q p) (distance t q) (distance t p) (area p q t)

-- a limit is for an aspect ratio up to which no triangle reaches a score
pub record Thinned (score limit : Float) : Type 0 where
  pub aspect : Float
  pub aspects : AspectLimit score aspect
  pub thins : ThinLimit aspect limit
