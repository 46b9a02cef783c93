-- Intervals and boxes that hold what is worked out from numbers in others. Definitions only.
use Rattle.std.specs.Prelude.{T, Float}
use Rattle.std.specs.Float.{binary32}
use Rattle.std.specs.Float.Ieee.{le, fits}
use Rattle.std.specs.Float.Ieee.Scale.{finite}
use Rattle.numbers.specs.Inner.Bounds.{unsigned}
use Rattle.numbers.specs.Rounded.{f32, ◌⊖◌, ◌⊗◌}
use Rattle.vector.specs.Vector.{difference, magnitude_squared, cross}
use Rattle.vector.specs.Inner.Numbers.{Finite}
use Rattle.vector.specs.declared.Point3f.{Point3f}
use Rattle.bounds.specs.declared.Interval.{Interval}
use Rattle.bounds.specs.declared.Bounds.{Bounds}
use Rattle.bounds.specs.Inner.Within.{within}

-- x lies from lo to hi
pub record Between (lo hi x : Float) : Type 0 where
  pub least : T (le lo x)
  pub most : T (le x hi)

-- an interval holds x
abbrev pub IntervalHolds : Interval → Float → Type 0
IntervalHolds i x = Between i.lo i.hi x

-- both ends have a finite square, so no product of such ends is infinite
pub record Moderate (lo hi : Float) : Type 0 where
  pub lo_square : T (finite (lo ⊗ lo))
  pub hi_square : T (finite (hi ⊗ hi))

-- the interval r holds the squares of the numbers from lo to hi, and neither of its ends has a minus sign; if it has a
-- finite end, the ends are moderate
pub record Squares (lo hi : Float) (r : Interval) : Type 0 where
  pub signless : (x : Float) → Between lo hi x → T (unsigned r.lo) × T (unsigned r.hi)
  pub holds : (x : Float) → Between lo hi x → IntervalHolds r (x ⊗ x)
  pub moderate : T (finite r.hi) → (x : Float) → Between lo hi x → Moderate lo hi

-- r holds the products of the numbers from a to b with those from c to d
pub record Products (a b c d : Float) (r : Interval) : Type 0 where
  pub holds : Moderate a b → Moderate c d → (x y : Float) → Between a b x → Between c d y → IntervalHolds r (x ⊗ y)

-- r holds such products less those of the numbers from e to f with those from g to h
pub record Parts (a b c d e f g h : Float) (r : Interval) : Type 0 where
  pub holds : Moderate a b → Moderate c d → Moderate e f → Moderate g h
      → (x y z w : Float) → Between a b x → Between c d y → Between e f z → Between g h w
      → IntervalHolds r (x ⊗ y ⊖ z ⊗ w)

-- r has every point of b, and p
pub record Grown (b : Bounds) (p : Point3f) (r : Bounds) : Type 0 where
  pub keeps : (q : Point3f) → Finite p → T (within b q) → T (within r q)
  pub own : Finite p → T (within r p)

-- r holds what either of two intervals does
pub record Joined (a b r : Interval) : Type 0 where
  pub holds : (x y : Float) → IntervalHolds a x → IntervalHolds b y → IntervalHolds r x × IntervalHolds r y

-- the least and the greatest differences of the points of two boxes
unfoldable pub differences_of : Bounds → Bounds → Bounds
differences_of p q = record { lo = difference p.lo q.hi; hi = difference p.hi q.lo }

-- the ends of a box are moderate on each axis
pub record ModerateBox (v : Bounds) : Type 0 where
  pub x_moderate : Moderate v.lo.x v.hi.x
  pub y_moderate : Moderate v.lo.y v.hi.y
  pub z_moderate : Moderate v.lo.z v.hi.z

-- r holds the squared lengths of the vectors of a box, and begins at zero or above; if it has a finite end, the box is
-- moderate
pub record Magnitudes (v : Bounds) (r : Interval) : Type 0 where
  pub held : T (fits binary32 r.lo) × T (fits binary32 r.hi)
  pub above : (u : Point3f) → T (within v u) → T (le (f32 0) r.lo)
  pub holds : (u : Point3f) → T (within v u) → IntervalHolds r (magnitude_squared u)
  pub moderate : T (finite r.hi) → (u : Point3f) → T (within v u) → ModerateBox v

-- r has the cross products of the vectors of two boxes
pub record Crosses (v w r : Bounds) : Type 0 where
  pub has : ModerateBox v → ModerateBox w → (a b : Point3f) → T (within v a) → T (within w b) → T (within r (cross a b))

-- r holds the squared lengths of their cross products
pub record CrossSquares (v w : Bounds) (r : Interval) : Type 0 where
  pub holds : ModerateBox v → ModerateBox w
      → (a b : Point3f) → T (within v a) → T (within w b) → IntervalHolds r (magnitude_squared (cross a b))
