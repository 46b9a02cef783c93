-- What is known of three points that make no seed, and of limits. Definitions only.
use Rattle.std.specs.Prelude.{ℕ, ◌<◌, ◌≡◌, true, false, List, Float}
use Rattle.vector.specs.Inner.Numbers.{Finite}
use Rattle.points.specs.Points.{point_at}
use Rattle.decisions.specs.declared.Scene.{Scene}
use Rattle.quality.specs.Inner.Shape.{quality_of}
use Rattle.decisions.specs.Decisions.{is_close, accepts}
use Rattle.decisions.specs.Inner.Completes.{completes}
use Rattle.filters.specs.declared.Limits.{Limits}
use Rattle.filters.specs.Inner.Refused.{Limiting}

-- points j and k make no seed with point i, in either order
pub record NoSeed (s : Scene) (pts : List Float) (r : Float) (i j k : ℕ) : Type 0 where
  pub forward : is_close pts r i j ≡ true → completes s pts r i j k ≡ false
  pub backward : is_close pts r i k ≡ true → completes s pts r i k j ≡ false

-- points i, j and k make no seed, whichever of them comes first
pub record Seedless (s : Scene) (pts : List Float) (r : Float) (i j k : ℕ) : Type 0 where
  pub first : NoSeed s pts r i j k
  pub second : NoSeed s pts r j i k
  pub third : NoSeed s pts r k i j

-- the settings refuse a triangle with edges of lengths a, b and c, in both orders of the points after the first
pub record RefusedBoth (s : Scene) (r a b c area : Float) : Type 0 where
  pub forward : accepts s r (quality_of a b c area) ≡ false
  pub backward : accepts s r (quality_of c b a area) ≡ false

-- they refuse it at every radius, whichever of three points comes first: x, y and z are the areas, by the first one
pub record RefusedAll (s : Scene) (a b c x y z : Float) : Type 0 where
  pub first : (r : Float) → RefusedBoth s r a b c x
  pub second : (r : Float) → RefusedBoth s r a c b y
  pub third : (r : Float) → RefusedBoth s r c a b z

-- coordinates are numbers, and limits are those at a radius
pub record LimitsAtRadius (s : Scene) (pts : List Float) (r : Float) (l : Limits) : Type 0 where
  pub numbers : (k : ℕ) → k < s.n → Finite (point_at pts k)
  pub limits : Limiting s r l
