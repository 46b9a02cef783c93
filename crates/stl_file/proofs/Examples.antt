-- Normals by computation: a length that underflows to 0, and a minus zero that stays. Assumes nothing.
use mathlib.Core.Path.{◌≡◌, refl}
use mathlib.Core.List.{List, [], ◌∷◌}
use lib.Ieee.{binary32, neg, add, sub, mul, div, lt, le, eq, is_nan, of_bits, to_bits}
use Prim.Native.Nat.{ℕ}
use Rattle.numbers.specs.Rounded.{f32}
use Rattle.numbers.specs.Root.{root}
use Rattle.vector.specs.Vector.{point, difference, magnitude_squared, magnitude, cross}
use Rattle.vector.specs.declared.Point3f.{Point3f}
use Rattle.facets.specs.Format.{divided, normal}

abbrev bits : Point3f → List ℕ
bits p = to_bits binary32 p.x ∷ to_bits binary32 p.y ∷ to_bits binary32 p.z ∷ []

-- (0, 0, 0), (2^-37, 0, 0), (0, 2^-38, 0): the cross product's length is 0
underflow : bits (normal (point (f32 0) (f32 0) (f32 0)) (point (f32 0x2d000000) (f32 0) (f32 0)) (point (f32 0) (f32 0x2c800000) (f32 0))) ≡ 0 ∷ 0 ∷ 0 ∷ []
unfolding normal divided cross difference magnitude magnitude_squared root neg add sub mul div lt le eq is_nan of_bits to_bits
underflow = refl

-- (0, 0, 0), (1, -1, 0), (0, 1, 0): the first part is minus zero
minus_zero : bits (normal (point (f32 0) (f32 0) (f32 0)) (point (f32 0x3f800000) (f32 0xbf800000) (f32 0)) (point (f32 0) (f32 0x3f800000) (f32 0)))
    ≡ 0x80000000 ∷ 0 ∷ 0x3f800000 ∷ []
unfolding normal divided cross difference magnitude magnitude_squared root neg add sub mul div lt le eq is_nan of_bits to_bits
minus_zero = refl
