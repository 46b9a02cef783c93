-- When the cosine of a triangle's angle, as f32 have it, is at least a bound, by the squares of the edges' lengths and
-- of the cross product's: the test, the limit that it takes, and what it says. Definitions only.
use Rattle.std.specs.Prelude.{ℕ, ◌+◌, ◌*◌, ◌^◌, ◌≤◌, Bool, false, ◌&&◌, ◌||◌, cond, T, Float}
use Rattle.std.specs.Float.{binary32}
use Rattle.std.specs.Float.Ieee.{le, fits}
use Rattle.std.specs.Float.Ieee.Exact.{HasValue}
use Rattle.numbers.specs.Rounded.{f32, ◌⊖◌, ◌⊗◌}
use Rattle.numbers.specs.Root.{root}
use Rattle.vector.specs.Vector.{squared}
use Rattle.vector.specs.declared.Point3f.{Point3f}
use Rattle.bounds.specs.declared.Interval.{Interval}
use Rattle.intervals.specs.Inner.Enclosed.{IntervalHolds}
use Rattle.area_bounds.specs.Inner.AreaBound.{cross_squared}
use Rattle.slivers.specs.Inner.Slivers.{cosine_of}

-- ---- the test; al and ah, cl and ch, bl and bh are the ends of the squares of P Q, P T and Q T

-- the squares that are measured: of lengths from 2 ^ -20 to 2 ^ 13
unfoldable pub is_plain_pair : Float → Float → Bool
is_plain_pair lo hi = le (f32 0x2b800000) lo && le hi (f32 0x4c800000)

unfoldable pub are_plain : Float → Float → Float → Float → Float → Float → Bool
are_plain al ah cl ch bl bh = is_plain_pair al ah && (is_plain_pair cl ch && is_plain_pair bl bh)

-- none of two squares is more than so many times the other
unfoldable pub is_comparable : Float → Float → Float → Float → Float → Bool
is_comparable al ah cl ch times = le ah (times ⊗ cl) && le ch (times ⊗ al)

-- for edges whose ratio is at most 4 the limit itself, up to 16, 64 and 256 it less 12, 60 and 252 / 2 ^ 19, beyond
-- that none
unfoldable pub limit_at : Float → Float → Float → Float → Float → Float
limit_at al ah cl ch limit =
    cond (is_comparable al ah cl ch (f32 0x41800000)) limit
    (cond (is_comparable al ah cl ch (f32 0x43800000)) (limit ⊖ f32 0x37c00000)
    (cond (is_comparable al ah cl ch (f32 0x45800000)) (limit ⊖ f32 0x38f00000)
    (cond (is_comparable al ah cl ch (f32 0x47800000)) (limit ⊖ f32 0x39fc0000) (f32 0))))

-- Q T is not the longest edge
unfoldable pub is_short : Float → Float → Float → Bool
is_short al cl bh = le bh al || le bh cl

-- the cross product is small against the edges; limits below 2 ^ -20 pass nothing
unfoldable pub is_small : Float → Float → Float → Float → Bool
is_small al cl cross t = le (f32 0x35800000) t && le cross (t ⊗ (al ⊗ cl))

-- ---- what it says

-- κ is k / 2 ^ 149 and at least a half, t is l / 2 ^ 149, and κ + 33/32 t + (r + 1) / 2 ^ 19 is at most 1;
-- r is the ratio of the edges at P, on which rounding depends
pub record Margin (r : ℕ) (κ t : Float) : Type 0 where
  pub k : ℕ
  pub l : ℕ
  pub bound : HasValue κ false k (2 ^ 149)
  pub limit : HasValue t false l (2 ^ 149)
  pub half : 2 ^ 148 ≤ k
  pub short : 32 * (k + (r + 1) * 2 ^ 130) + 33 * l ≤ 32 * 2 ^ 149

-- t is a limit for the bound κ; below 2 ^ -20 it passes no triangle, so that nothing is asked of it
pub record NarrowLimit (κ t : Float) : Type 0 where
  pub margin : T (le (f32 0x35800000) t) → Margin 4 κ t

-- a point whose coordinates are f32
pub record Coordinates (p : Point3f) : Type 0 where
  pub x_fits : T (fits binary32 p.x)
  pub y_fits : T (fits binary32 p.y)
  pub z_fits : T (fits binary32 p.z)

abbrev pub interval : Float → Float → Interval
interval lo hi = record { lo = lo; hi = hi }

-- the cosine opposite to a is at least κ, in both orders of the other two
pub record AtLeast (κ a b c : Float) : Type 0 where
  pub first : T (le κ (cosine_of a b c))
  pub second : T (le κ (cosine_of a c b))

-- for all triangles with squares in the intervals a, c and b, and a cross product at P whose square is not above cross,
-- the cosine at P is at least every bound that the limit is for
pub record NarrowAngle (limit : Float) (a c b : Interval) (cross : Float) : Type 0 where
  pub cosine : (κ : Float) → NarrowLimit κ limit → (p q t : Point3f) → Coordinates p → Coordinates q → Coordinates t
      → IntervalHolds a (squared p q) → IntervalHolds c (squared p t) → IntervalHolds b (squared q t)
      → T (le (cross_squared p q t) cross) → AtLeast κ (root (squared q t)) (root (squared p q)) (root (squared p t))
