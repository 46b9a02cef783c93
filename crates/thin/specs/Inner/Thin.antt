-- When the aspect ratio is at most a bound, by the squares of the lengths: the test, the limit that it takes, and what
-- it says. Definitions only.
use Rattle.std.specs.Prelude.{◌*◌, ◌^◌, ◌-◌, ◌≤◌, Bool, not, ◌&&◌, T, Float}
use Rattle.std.specs.Float.{binary32}
use Rattle.std.specs.Float.Ieee.{lt, le, fits}
use Rattle.std.specs.Float.Ieee.Positive.{num, den}
use Rattle.numbers.specs.Rounded.{f32, ◌⊕◌, ◌⊗◌}
use Rattle.numbers.specs.Root.{root}
use Rattle.numbers.specs.Order.{minimum}
use Rattle.quality.specs.Measures.{half}
use Rattle.quality.specs.Inner.Shape.{shape_of}

unfoldable pub square_between : Float → Float → Float → Bool
square_between x lo hi = le lo x && le x hi

-- the squares that are measured: of lengths from 2 ^ -20 to 2 ^ 13, and of a cross product from 2 ^ -30 to 2 ^ 30
unfoldable pub is_plain_triangle : Float → Float → Float → Float → Bool
is_plain_triangle a b c cross =
    square_between a (f32 0x2b800000) (f32 0x4c800000)
    && (square_between b (f32 0x2b800000) (f32 0x4c800000)
    && (square_between c (f32 0x2b800000) (f32 0x4c800000) && square_between cross (f32 0x21800000) (f32 0x5d800000)))

-- at most the square of the sum of the lengths whose squares are a, b and c, but for rounding
unfoldable pub spread : Float → Float → Float → Float
spread a b c = (a ⊕ b ⊕ c) ⊕ f32 0x40000000 ⊗ (minimum a b ⊕ minimum b c ⊕ minimum c a)

-- 4 t (1 + 2 ^ -17) is at most the square of α, near enough; α from 2 ^ -9 to 4
pub record Quartered (α t : Float) : Type 0 where
  pub held : T (fits binary32 α)
  pub low : T (le (f32 0x3b000000) α)
  pub high : T (le α (f32 0x40800000))
  pub bounded : T (le t (f32 0x40800000))
  pub short : 2 ^ 19 * num t * (den α * den α) ≤ (2 ^ 17 - 1) * (num α * num α) * den t

-- t is a limit for the bound α; below 2 ^ -20 it passes no triangle, so that nothing is asked of it
pub record ThinLimit (α t : Float) : Type 0 where
  pub quartered : T (le (f32 0x35800000) t) → Quartered α t

-- the aspect ratio of a triangle with lengths whose squares are a, b and c is at most every bound that the limit is for
pub record Thin (limit a b c cross : Float) : Type 0 where
  pub below : (α : Float) → ThinLimit α limit
      → T (le (shape_of (root a) (root b) (root c) (root cross ⊗ half)).aspect_ratio α)

-- a triangle is thin so in each order of its lengths
pub record AllThin (limit a b c cross : Float) : Type 0 where
  pub abc : Thin limit a b c cross
  pub acb : Thin limit a c b cross
  pub bac : Thin limit b a c cross
  pub bca : Thin limit b c a cross
  pub cab : Thin limit c a b cross
  pub cba : Thin limit c b a cross

-- an f32 that is the square of a length up to 2 ^ 13, and not below a
pub record LongerThan (a u : Float) : Type 0 where
  pub held : T (fits binary32 u)
  pub above : T (le a u)
  pub high : T (le u (f32 0x4c800000))

-- it is, and so it is with any other cross product whose square is not above that, also with longer edges
pub record ThinUpTo (limit a b c cross : Float) : Type 0 where
  pub own : AllThin limit a b c cross
  pub less : (x : Float) → T (fits binary32 x) → T (not (lt cross x)) → AllThin limit a b c x
  pub longer : (u v w x : Float) → LongerThan a u → LongerThan b v → LongerThan c w
      → T (fits binary32 x) → T (not (lt cross x)) → AllThin limit u v w x
