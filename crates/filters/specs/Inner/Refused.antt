-- Triangles and radii that are known to be refused before anything is measured. Definitions only.
use Rattle.std.specs.Prelude.{◌≡◌, false, T, Float}
use Rattle.std.specs.Float.{inf}
use Rattle.std.specs.Float.Ieee.{lt, le}
use Rattle.vector.specs.Vector.{squared}
use Rattle.triangle.specs.Quality.{area, quality}
use Rattle.score_bounds.specs.Inner.Bound.{AspectLimit}
use Rattle.vector.specs.declared.Point3f.{Point3f}
use Rattle.area_bounds.specs.Inner.AreaBound.{cross_squared, AreaLimit, TooLong, LargeLimit}
use Rattle.thin.specs.Inner.Thin.{ThinLimit, AllThin}
use Rattle.bounds.specs.declared.Interval.{Interval}
use Rattle.bounds.specs.Inner.Within.{Limit}
use Rattle.intervals.specs.Inner.Enclosed.{IntervalHolds}
use Rattle.cosines.specs.Inner.Cosine.{Coordinates}
use Rattle.sliver_filters.specs.Inner.SliversWithin.{Filtering, LowEach}
use Rattle.decisions.specs.declared.Scene.{Scene}
use Rattle.decisions.specs.Decisions.{reach, accepts}
use Rattle.filters.specs.declared.Limits.{Limits}

-- triangles with an area below m are refused at a radius
pub record Least (s : Scene) (r m : Float) : Type 0 where
  pub refuses : (p q t : Point3f) → T (lt (area p q t) m) → accepts s r (quality p q t) ≡ false

-- limits are those of the settings at a radius: for the least area, the edge factor, twice the radius, and an aspect
-- ratio up to which no score reaches the threshold; and those for slivers
pub record Limiting (s : Scene) (r : Float) (l : Limits) : Type 0 where
  pub least : Float
  pub leasts : Least s r least
  pub smalls : AreaLimit least l.small
  pub larges : LargeLimit r s.max_edge_factor l.large
  pub fars : Limit (reach r) l.far
  pub aspect : Float
  pub aspects : AspectLimit s.quality_threshold aspect
  pub thins : ThinLimit aspect l.thin
  pub filters : Filtering s.quality_threshold l.slivers

-- limits refuse the triangle of p, q and t: its area is too small or too large, q and t are too far apart, or it is too
-- thin
pub data Refused (l : Limits) (p q t : Point3f) : Type 0 where
  small : T (le (cross_squared p q t) l.small) → Refused l p q t
  large : T (le l.large (cross_squared p q t)) → Refused l p q t
  far : T (lt l.far (squared q t)) → Refused l p q t
  thin : AllThin l.thin (squared p q) (squared p t) (squared q t) (cross_squared p q t) → Refused l p q t

-- the score of the triangle of p, q and t is too low in each order of them, if the limits are those of a threshold
pub record Sliver (l : Limits) (p q t : Point3f) : Type 0 where
  pub low : (threshold : Float) → Filtering threshold l.slivers → LowEach threshold p q t

-- three points with such squares of edges and of twice their areas are a sliver
pub record SliverOf (l : Limits) (pq pt qt x y z : Float) : Type 0 where
  pub is : (p q t : Point3f) → Coordinates p × Coordinates q × Coordinates t
      → pq ≡ squared p q → pt ≡ squared p t → qt ≡ squared q t
      → x ≡ cross_squared p q t → y ≡ cross_squared q p t → z ≡ cross_squared t p q → Sliver l p q t

-- limits refuse the triangle of p, q and t whichever of them comes first: q and t are too far apart, it is a sliver, or
-- it is refused in each order
pub data RefusedThroughout (l : Limits) (p q t : Point3f) : Type 0 where
  sliver : Sliver l p q t → RefusedThroughout l p q t
  distant : T (lt l.far (squared q t)) → RefusedThroughout l p q t
  each : Refused l p q t → Refused l q p t → Refused l t p q → RefusedThroughout l p q t

-- the settings refuse the triangle of p, q and t at a radius, in each order of them
pub record RefusedEach (s : Scene) (r : Float) (p q t : Point3f) : Type 0 where
  pub pqt : accepts s r (quality p q t) ≡ false
  pub ptq : accepts s r (quality p t q) ≡ false
  pub qpt : accepts s r (quality q p t) ≡ false
  pub qtp : accepts s r (quality q t p) ≡ false
  pub tpq : accepts s r (quality t p q) ≡ false
  pub tqp : accepts s r (quality t q p) ≡ false

-- an interval holds a number that is one
pub record Only (x : Float) (i : Interval) : Type 0 where
  pub own : T (le x x) → IntervalHolds i x

-- points that are close at a radius have finite distances, and no triangle has an area large enough and edges short
-- enough
pub record RefusesAll (s : Scene) (r : Float) : Type 0 where
  pub bounded : T (lt (reach r) (inf false))
  pub long : TooLong r s.min_triangle_area s.max_edge_factor
