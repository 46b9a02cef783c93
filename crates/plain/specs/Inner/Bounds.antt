-- Tests by which a circumradius is known to be at most the widest, or above it, without a root. Definitions only.
-- Of a triangle, x is the product of two edges with a guess b at the third, whose square is `edge`; z is a guess at the
-- length of the cross product, whose square is s.
use Rattle.std.specs.Prelude.{T, Float}
use Rattle.std.specs.Float.Ieee.{lt, le}
use Rattle.numbers.specs.Rounded.{f32, ◌⊗◌}
use Rattle.quality.specs.Measures.{half}

-- the square of the longest cross product that is too short, the next number, and the largest number
abbrev pub thin : Float
thin = f32 0x2b8cbccd

abbrev pub least_cross : Float
least_cross = f32 0x2b8cbcce

abbrev pub largest_number : Float
largest_number = f32 0x7f7fffff

-- four times the area, as the circumradius has it, where z is the length of the cross product
unfoldable pub fourfold : Float → Float
fourfold z = f32 0x40800000 ⊗ (z ⊗ half)

-- b is above the edge, z below the length, and x over four times the area not above the widest
pub record NarrowTriangle (x z b edge s widest : Float) : Type 0 where
  pub short : T (lt (z ⊗ z) s)
  pub within : T (lt x (widest ⊗ fourfold z))
  pub long : T (lt edge (b ⊗ b))
  pub x_above : T (lt (f32 0) x)
  pub area_above : T (lt (f32 0) (fourfold z))

-- b is below the edge, z above the length, and x over four times the area not below what is beyond the widest
pub record Wide (x z b edge s widest beyond : Float) : Type 0 where
  pub long : T (lt s (z ⊗ z))
  pub out : T (lt (beyond ⊗ fourfold z) x)
  pub short : T (lt (b ⊗ b) edge)
  pub x_above : T (lt (f32 0) x)
  pub area_above : T (lt (f32 0) (fourfold z))
  pub beyond_above : T (lt (f32 0) beyond)
  pub x_fits : T (le x largest_number)
  pub area_fits : T (le (fourfold z) largest_number)
  pub edge_fits : T (le edge largest_number)
  pub beyond_fits : T (le beyond largest_number)
  pub apart : T (lt widest beyond)
