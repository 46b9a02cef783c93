-- Roots computed from the definition, with the bits that IEEE 754 arithmetic gives: of 2, 3, the smallest f32 above
-- zero and the largest f32.
use mathlib.Core.Path.{◌≡◌, refl}
use lib.Ieee.{of_bits}
use Rattle.numbers.specs.Rounded.{f32}
use Rattle.numbers.specs.Root.{root}

root_of_two : root (f32 0x40000000) ≡ f32 0x3fb504f3
unfolding root of_bits
root_of_two = refl

root_of_three : root (f32 0x40400000) ≡ f32 0x3fddb3d7
unfolding root of_bits
root_of_three = refl

root_of_smallest : root (f32 0x00000001) ≡ f32 0x1a3504f3
unfolding root of_bits
root_of_smallest = refl

root_of_largest : root (f32 0x7f7fffff) ≡ f32 0x5f7fffff
unfolding root of_bits
root_of_largest = refl
