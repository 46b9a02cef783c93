-- The nearest of small clouds, computed. Assumes nothing.
use mathlib.Core.Path.{◌≡◌, refl}
use mathlib.Core.List.{List, [], ◌∷◌, map}
use lib.Ieee.{Float, span, climb, size, odd, units, round, neg, sum, add, sub, mul, lt, of_fields, of_bits}
use Rattle.numbers.specs.Rounded.{f32}
use Rattle.numbers.specs.Root.{isqrt, nearest_root, root_of_units, root}
use Rattle.vector.specs.Vector.{point, difference, magnitude_squared, squared, distance}
use Rattle.points.specs.Points.{point_at}
use Rattle.nearest.specs.Scan.{first_least, nearest}

-- points at 2, -2, 1 and -1 on the first axis: of the two at distance 1 from 0 the lower number
abbrev four : List Float
four = map f32 (0x40000000 ∷ 0 ∷ 0 ∷ 0xc0000000 ∷ 0 ∷ 0 ∷ 0x3f800000 ∷ 0 ∷ 0 ∷ 0xbf800000 ∷ 0 ∷ 0 ∷ [])

pub lower_number : nearest four 4 (point (f32 0) (f32 0) (f32 0)) ≡ record { distance = f32 0x3f800000; number = 2 }
unfolding span climb size odd units round neg sum add sub mul lt of_fields of_bits isqrt nearest_root root_of_units root difference magnitude_squared squared
    distance point_at first_least nearest
lower_number = refl

-- the last one is looked at too
pub last_one : nearest four 4 (point (f32 0xbf800000) (f32 0) (f32 0)) ≡ record { distance = f32 0; number = 3 }
unfolding span climb size odd units round neg sum add sub mul lt of_fields of_bits isqrt nearest_root root_of_units root difference magnitude_squared squared
    distance point_at first_least nearest
last_one = refl

-- 0.022097087 on one axis and 1/64 on two have unlike squares and one length: the lower number, whichever it is
abbrev alike : List Float
alike = map f32 (0x3cb504f3 ∷ 0 ∷ 0 ∷ 0x3c800000 ∷ 0x3c800000 ∷ 0 ∷ [])

pub one_length : nearest alike 2 (point (f32 0) (f32 0) (f32 0)) ≡ record { distance = f32 0x3cb504f3; number = 0 }
unfolding span climb size odd units round neg sum add sub mul lt of_fields of_bits isqrt nearest_root root_of_units root difference magnitude_squared squared
    distance point_at first_least nearest
one_length = refl
