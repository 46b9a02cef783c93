-- When the edge ratio times the root of the area is above a bound, by the squares of the lengths: the test, the limit
-- that it takes, and what it says. Definitions only.
use Rattle.std.specs.Prelude.{◌≡◌, Bool, ◌&&◌, T, Float}
use Rattle.std.specs.Float.{binary32}
use Rattle.std.specs.Float.Ieee.{lt, le, fits}
use Rattle.numbers.specs.Rounded.{f32, ◌⊗◌, ◌⊘◌}
use Rattle.numbers.specs.Root.{root}
use Rattle.quality.specs.Measures.{half}

unfoldable pub edge_between : Float → Float → Float → Bool
edge_between x lo hi = le lo x && le x hi

-- squares of lengths from 2 ^ -20 to 2 ^ 13
unfoldable pub is_plain_triple : Float → Float → Float → Bool
is_plain_triple a b c =
    edge_between a (f32 0x2b800000) (f32 0x4c800000)
    && (edge_between b (f32 0x2b800000) (f32 0x4c800000) && edge_between c (f32 0x2b800000) (f32 0x4c800000))

-- the squares of a longest edge from 2 ^ -13 on and of a cross product from 2 ^ -30 to 2 ^ 30 pass a limit: the fourth
-- power of the ratio of two edges times the square of the cross product's length is above it
unfoldable pub is_beyond : Float → Float → Float → Float → Bool
is_beyond short long cross limit =
    edge_between long (f32 0x32800000) (f32 0x4c800000)
    && (edge_between cross (f32 0x21800000) (f32 0x5d800000)
    && lt (limit ⊗ (short ⊗ short)) (long ⊗ long ⊗ cross))

-- the ratio of two edges times the root of the area, from the squares
unfoldable pub extent : Float → Float → Float → Float
extent short long cross = (root long ⊘ root short) ⊗ root (root cross ⊗ half)

-- t is a limit for the bound ℓ: what passes it is above the bound
pub record LongLimit (ℓ t : Float) : Type 0 where
  pub above : (short long cross : Float) → T (fits binary32 short) → T (fits binary32 long)
      → T (fits binary32 cross) → T (edge_between short (f32 0x2b800000) (f32 0x4c800000))
      → T (is_beyond short long cross t) → T (lt ℓ (extent short long cross))

-- x is one of three
pub data OneOf (x a b c : Float) : Type 0 where
  first : x ≡ a → OneOf x a b c
  second : x ≡ b → OneOf x a b c
  third : x ≡ c → OneOf x a b c

-- two of the edges whose squares are a, b and c pass the limit, and no square is too small or too large
pub record Long (limit a b c cross : Float) : Type 0 where
  pub short : Float
  pub long : Float
  pub short_of : OneOf short a b c
  pub long_of : OneOf long a b c
  pub plain : (x : Float) → OneOf x a b c → T (edge_between x (f32 0x2b800000) (f32 0x4c800000))
  pub beyond : T (is_beyond short long cross limit)
