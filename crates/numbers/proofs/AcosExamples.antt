-- The arc cosine worked out from its definition at outside values, with the bits that musl's routine gives.
use mathlib.Core.Path.{◌≡◌, refl}
use Prim.Native.Nat.{ℕ}
use lib.Ieee.{binary32, neg, add, sub, mul, div, lt, le, eq, is_nan, of_bits, to_bits}
use Rattle.numbers.specs.Rounded.{f32}
use Rattle.numbers.specs.Root.{root}
use Rattle.numbers.specs.Acos.{R, abs, high_part, acos_middle, acos_low, acos_high, acos_inside, acos}

-- the bits of the arc cosine of the f32 with the bits b
abbrev acos_bits : ℕ → ℕ
acos_bits b = to_bits binary32 (acos (f32 b))

-- at 1, -1, 0, 0.5, -0.5, 2 ^ -26, 0.25
acos-values :
    (acos_bits 0x3f800000 ≡ 0)
    × (acos_bits 0xbf800000 ≡ 0x40490fda)
    × (acos_bits 0 ≡ 0x3fc90fda)
    × (acos_bits 0x3f000000 ≡ 0x3f860a92)
    × (acos_bits 0xbf000000 ≡ 0x40060a92)
    × (acos_bits 0x32800000 ≡ 0x3fc90fda)
    × (acos_bits 0x3e800000 ≡ 0x3fa8b807)
unfolding R abs high_part acos_middle acos_low acos_high acos_inside acos root neg add sub mul div lt le eq is_nan of_bits to_bits
acos-values = (refl, refl, refl, refl, refl, refl, refl)
