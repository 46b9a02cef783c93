-- Limits for the aspect ratio of needles, triangles with a small least angle and a large edge ratio. Definitions only.
use Rattle.std.specs.Prelude.{T, Float}
use Rattle.std.specs.Float.Ieee.{lt, le}
use Rattle.quality.specs.Inner.Shape.{shape_of, quality_of}
use Rattle.six_orders.specs.Inner.SixOrders.{InOrder, AngleBound, EdgeBound}
use Rattle.thin.specs.Inner.Thin.{ThinLimit}
use Rattle.needle_angles.specs.declared.NeedleClass.{NeedleClass}
use Rattle.needle_angles.specs.declared.NeedleClass.TheVariants.{Times10, Times16, Times32, Times64, Times128}
use Rattle.needle_angles.specs.Inner.NeedleAngles.{angle_of, ratio_of}
use Rattle.needle_limits.specs.declared.NeedleLimits.{NeedleLimits}

-- a triangle whose least angle and edge ratio these bound, and whose aspect ratio is at most the given one, has a score
-- below the threshold, in each order of its edges and with each area
pub record Needles (threshold angle ratio aspect : Float) : Type 0 where
  pub below : (a b c u v w area : Float) → AngleBound a b c angle → EdgeBound a b c ratio → InOrder a b c u v w
      → T (le (shape_of u v w area).aspect_ratio aspect) → T (lt (quality_of u v w area).quality_score threshold)

-- a limit for an aspect ratio with which that holds
pub record NeedleLimit (threshold angle ratio limit : Float) : Type 0 where
  pub aspect : Float
  pub refuses : Needles threshold angle ratio aspect
  pub thins : ThinLimit aspect limit

-- limits are those of a threshold, each for its class
pub record ClassLimits (threshold : Float) (l : NeedleLimits) : Type 0 where
  pub times_10 : NeedleLimit threshold (angle_of Times10) (ratio_of Times10) l.times_10
  pub times_16 : NeedleLimit threshold (angle_of Times16) (ratio_of Times16) l.times_16
  pub times_32 : NeedleLimit threshold (angle_of Times32) (ratio_of Times32) l.times_32
  pub times_64 : NeedleLimit threshold (angle_of Times64) (ratio_of Times64) l.times_64
  pub times_128 : NeedleLimit threshold (angle_of Times128) (ratio_of Times128) l.times_128

-- t is the limit of class k, for each threshold that the limits are for
pub record ClassLimit (l : NeedleLimits) (k : NeedleClass) (t : Float) : Type 0 where
  pub limits : (threshold : Float) → ClassLimits threshold l → NeedleLimit threshold (angle_of k) (ratio_of k) t
