-- Thresholds that no score reaches, and intervals for which that is known. Definitions only.
use Rattle.std.specs.Prelude.{Bool, T, Float}
use Rattle.std.specs.Float.Ieee.{le}
use Rattle.numbers.specs.Rounded.{f32}
use Rattle.vector.specs.Vector.{squared}
use Rattle.vector.specs.declared.Point3f.{Point3f}
use Rattle.bounds.specs.declared.Interval.{Interval}
use Rattle.intervals.specs.Inner.Enclosed.{IntervalHolds}
use Rattle.cosines.specs.Inner.Cosine.{Coordinates}
use Rattle.sliver_filters.specs.Inner.SliversWithin.{LowEach}

-- 1.00001 or more
unfoldable pub is_out_of_reach : Float → Bool
is_out_of_reach threshold = le (f32 0x3f800054) threshold

-- triangles whose squares of the edges P Q, Q T and P T lie in intervals have a score below every such threshold, in
-- each order of their points
pub record OutOfReach (a b c : Interval) : Type 0 where
  pub low : (threshold : Float) → T (is_out_of_reach threshold)
      → (p q t : Point3f) → Coordinates p → Coordinates q → Coordinates t
      → IntervalHolds a (squared p q) → IntervalHolds b (squared q t) → IntervalHolds c (squared p t)
      → LowEach threshold p q t
