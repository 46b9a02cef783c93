-- Slivers: what bounds the angles and the score of a triangle two of whose angles have large cosines. Definitions only.
use Rattle.std.specs.Prelude.{not, T, Float}
use Rattle.std.specs.Float.{binary32}
use Rattle.std.specs.Float.Ieee.{neg, lt, le, fits, is_nan}
use Rattle.numbers.specs.Rounded.{f32, ◌⊕◌, ◌⊖◌, ◌⊗◌, ◌⊘◌}
use Rattle.numbers.specs.Order.{clamp}
use Rattle.numbers.specs.Acos.{acos}
use Rattle.quality.specs.Inner.Shape.{shape_of, quality_of}
use Rattle.six_orders.specs.Inner.SixOrders.{InOrder}

-- the cosine of the angle opposite to the edge a, by the law of cosines
unfoldable pub cosine_of : Float → Float → Float → Float
cosine_of a b c = (b ⊗ b ⊕ c ⊗ c ⊖ a ⊗ a) ⊘ (f32 0x40000000 ⊗ b ⊗ c)

-- unless m is a NaN, no angle is larger whose cosine, held between -1 and 1, is at least the given one
pub record AngleLimit (cosine m : Float) : Type 0 where
  pub most : (v : Float) → T (fits binary32 v) → T (le cosine v) → T (not (is_nan m))
      → T (le (acos (clamp v (neg (f32 0x3f800000)) (f32 0x3f800000))) m)

-- the angles opposite to a and b have no lesser cosines, whichever side comes first
pub record SmallAngles (cosine a b c : Float) : Type 0 where
  pub abc : T (le cosine (cosine_of a b c))
  pub acb : T (le cosine (cosine_of a c b))
  pub bac : T (le cosine (cosine_of b a c))
  pub bca : T (le cosine (cosine_of b c a))

-- a triangle with two such angles and an aspect ratio of at most the given one has a score below the threshold, in
-- each order of its edges and with each area
pub record Slivers (threshold cosine aspect : Float) : Type 0 where
  pub below : (a b c u v w area : Float) → SmallAngles cosine a b c → InOrder a b c u v w
      → T (le (shape_of u v w area).aspect_ratio aspect) → T (lt (quality_of u v w area).quality_score threshold)
