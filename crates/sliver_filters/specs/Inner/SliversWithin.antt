-- Slivers and needles by squares: limits for a threshold, and what they tell of all triangles whose squares lie in
-- intervals.
-- Definitions only.
use Rattle.std.specs.Prelude.{T, Float}
use Rattle.std.specs.Float.{binary32}
use Rattle.std.specs.Float.Ieee.{lt, le, fits}
use Rattle.vector.specs.Vector.{squared}
use Rattle.vector.specs.declared.Point3f.{Point3f}
use Rattle.bounds.specs.declared.Interval.{Interval}
use Rattle.intervals.specs.Inner.Enclosed.{IntervalHolds}
use Rattle.triangle.specs.Quality.{quality}
use Rattle.area_bounds.specs.Inner.AreaBound.{cross_squared}
use Rattle.thin.specs.Inner.Thin.{ThinLimit, AllThin}
use Rattle.slivers.specs.Inner.Slivers.{Slivers}
use Rattle.cosines.specs.Inner.Cosine.{NarrowLimit, Coordinates}
use Rattle.needle_limits.specs.Inner.Needles.{ClassLimits}
use Rattle.sliver_filters.specs.declared.SliverFilter.{SliverFilter}

-- limits are those of a threshold: for cosines and an aspect ratio with which no score reaches it, and for needles
pub record Filtering (threshold : Float) (l : SliverFilter) : Type 0 where
  pub cosine : Float
  pub aspect : Float
  pub refuses : Slivers threshold cosine aspect
  pub narrows : NarrowLimit cosine l.narrow
  pub thins : ThinLimit aspect l.thin
  pub needles : ClassLimits threshold l.needles

-- an f32 in an interval
pub record HeldIn (i : Interval) (x : Float) : Type 0 where
  pub held : T (fits binary32 x)
  pub inside : IntervalHolds i x

-- triangles with squares in intervals, and with a cross product whose square is not above one, are thin in each order
pub record ThinWithin (limit : Float) (a b c : Interval) (cross : Float) : Type 0 where
  pub thin : (u v w x : Float) → HeldIn a u → HeldIn b v → HeldIn c w → T (fits binary32 x) → T (le x cross)
      → AllThin limit u v w x

-- the squares of the edges P Q, Q T and P T lie in intervals, and those of the cross products are not above one
pub record TriangleWithin (a b c : Interval) (cross : Float) (p q t : Point3f) : Type 0 where
  pub p_held : Coordinates p
  pub q_held : Coordinates q
  pub t_held : Coordinates t
  pub pq : IntervalHolds a (squared p q)
  pub qt : IntervalHolds b (squared q t)
  pub pt : IntervalHolds c (squared p t)
  pub at_p : T (le (cross_squared p q t) cross)
  pub at_q : T (le (cross_squared q p t) cross)
  pub at_t : T (le (cross_squared t p q) cross)

-- the score of a triangle is below a threshold in each order of its points
pub record LowEach (threshold : Float) (p q t : Point3f) : Type 0 where
  pub pqt : T (lt (quality p q t).quality_score threshold)
  pub ptq : T (lt (quality p t q).quality_score threshold)
  pub qpt : T (lt (quality q p t).quality_score threshold)
  pub qtp : T (lt (quality q t p).quality_score threshold)
  pub tpq : T (lt (quality t p q).quality_score threshold)
  pub tqp : T (lt (quality t q p).quality_score threshold)

-- all such triangles have a score below every threshold that the limits are for
pub record SliversWithin (l : SliverFilter) (a b c : Interval) (cross : Float) : Type 0 where
  pub low : (threshold : Float) → Filtering threshold l → (p q t : Point3f) → TriangleWithin a b c cross p q t
      → LowEach threshold p q t
