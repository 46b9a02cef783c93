-- Bounds of a triangle's measures in all orders of its edges. Definitions only.
use Rattle.std.specs.Prelude.{not, T, Float}
use Rattle.std.specs.Float.Ieee.{lt, le, is_nan}
use Rattle.std.specs.Float.Ieee.Positive.{positive}
use Rattle.std.specs.Float.Ieee.Scale.{finite}
use Rattle.numbers.specs.Rounded.{f32, ◌⊖◌}
use Rattle.quality.specs.Measures.{tiny, radius_of, angle, least, aspect_ratio, edge_ratio}
use Rattle.quality.specs.Inner.Shape.{quality_of}

-- the last three are a, b and c in some order
pub data InOrder (a b c : Float) : Float → Float → Float → Type 0 where
  abc : InOrder a b c a b c
  acb : InOrder a b c a c b
  bac : InOrder a b c b a c
  bca : InOrder a b c b c a
  cab : InOrder a b c c a b
  cba : InOrder a b c c b a

-- the least angle of a triangle, of which two are measured and one is left over
unfoldable pub least_angle : Float → Float → Float → Float
least_angle a b c = least (angle a b c) (angle b a c) (f32 0x40490fdb ⊖ angle a b c ⊖ angle b a c)

-- unless m is a NaN, no order has a larger least angle
pub record AngleBound (a b c m : Float) : Type 0 where
  pub most : (u v w : Float) → InOrder a b c u v w → T (not (is_nan m)) → T (le (least_angle u v w) m)

-- unless t is a NaN, no order has a larger aspect ratio, with areas from 1e-10 up to a largest one
pub record AspectBound (a b c largest t : Float) : Type 0 where
  pub most : (u v w area : Float) → InOrder a b c u v w → T (le tiny area) → T (le area largest) → T (not (is_nan t))
      → T (le (aspect_ratio u v w area (radius_of u v w area)) t)

-- x is not shorter than a
pub record NotShorter (a x : Float) : Type 0 where
  pub shorter : T (positive a)
  pub own : T (positive x)
  pub least : T (le a x)

-- t bounds the aspect ratio so of all edges that are not shorter than a, b and c
pub record AspectFrom (a b c largest t : Float) : Type 0 where
  pub longer : (x y z : Float) → NotShorter a x → NotShorter b y → NotShorter c z → AspectBound x y z largest t

-- t, at most 4, bounds the aspect ratio so, of edges above zero, and a threshold is above zero
pub record LowAspect (threshold a b c largest t : Float) : Type 0 where
  pub above : T (lt (f32 0) threshold)
  pub edges : T (positive a) × T (positive b) × T (positive c)
  pub from : AspectFrom a b c largest t
  pub small : T (le t (f32 0x40800000))

-- unless e is a NaN, it is above zero, and no order has a lesser edge ratio
pub record EdgeBound (a b c e : Float) : Type 0 where
  pub above : T (not (is_nan e)) → T (positive e)
  pub least : (u v w : Float) → InOrder a b c u v w → T (not (is_nan e)) → T (le e (edge_ratio u v w))

-- one of three edges is not longer than s
pub data OneUpTo (s x y z : Float) : Type 0 where
  first : T (le x s) → OneUpTo s x y z
  second : T (le y s) → OneUpTo s x y z
  third : T (le z s) → OneUpTo s x y z

-- e bounds the edge ratio so of all edges that are not shorter than a, b and c, and of which one is not longer than s
pub record EdgeFrom (a b c s e : Float) : Type 0 where
  pub longer : (x y z : Float) → NotShorter a x → NotShorter b y → NotShorter c z → OneUpTo s x y z → EdgeBound x y z e

-- in each order the score is below a threshold, with areas up to a largest one
pub record AllBelow (threshold largest a b c : Float) : Type 0 where
  pub below : (u v w area : Float) → InOrder a b c u v w → T (le area largest)
      → T (lt (quality_of u v w area).quality_score threshold)

-- so it is of all edges that are not shorter than a, b and c, of which one is not longer than s, and whose least angle
-- m bounds
pub record AllBelowFrom (threshold largest m a b c s : Float) : Type 0 where
  pub longer : (x y z : Float) → T (finite x) → T (finite y) → T (finite z) → T (le a x) → T (le b y) → T (le c z)
      → OneUpTo s x y z → AngleBound x y z m → AllBelow threshold largest x y z
