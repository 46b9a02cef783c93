-- The definitions computed for one pair of points, the one whose length is off by the largest part of all that were
-- tried: 0.6238 of what the theorem allows. It pins the statement: the exact square and the length's bits are computed
-- apart from the theorem, they meet the bound, and half the bound is not met. Assumes nothing.
use mathlib.Core.Path.{◌≡◌, refl}
use Prim.Native.Nat.{ℕ, suc, ◌*◌, ◌^◌}
use native.Mathlib.Nat.{not-le_of_lt}
use native.Mathlib.Omega.{arith}
use native.Mathlib.Bridge.{IsLe, le_by_compare}
use mathlib.Core.Bool.{Bool, true, false}
use lib.Ieee.{binary32, add, sub, neg, sum, mul, round, of_bits, to_bits}
use Rattle.numbers.specs.Rounded.{f32}
use Rattle.numbers.specs.Root.{root}
use Rattle.vector.specs.Vector.{point, difference, magnitude_squared, squared, distance}
use Rattle.vector.specs.declared.Point3f.{Point3f}
use Rattle.patterns.specs.Pattern.{units_of}
use Rattle.accuracy.specs.Accuracy.{Signed, Place, At, gap, square, exact_square, WithinMargin, Accurate, Measured}
use Rattle.accuracy.proofs.Claim.{accurate}

abbrev signed : Bool → ℕ → Signed
signed s n = record { negative = s; size = n }

-- (-1000, -1/64, -0), and that point moved by 4097, 3 and 109 64ths: one difference of like signs, one of unlike ones,
-- and one from -0
abbrev p : Point3f
p = point (f32 0xc47a0000) (f32 0xbc800000) (f32 0x80000000)

abbrev at_p : Place
at_p = record { x = signed true 64000; y = signed true 1; z = signed true 0 }

abbrev q : Point3f
q = point (f32 0xc469ff00) (f32 0x3d000000) (f32 0x3fda0000)

abbrev at_q : Place
at_q = record { x = signed true 59903; y = signed false 2; z = signed false 109 }

first : At p at_p
unfolding of_bits
first = record {
  x_is = record { value = (refl, refl); small = omega arith };
  y_is = record { value = (refl, refl); small = omega arith };
  z_is = record { value = (refl, refl); small = omega arith };
}

second : At q at_q
unfolding of_bits
second = record {
  x_is = record { value = (refl, refl); small = omega arith };
  y_is = record { value = (refl, refl); small = omega arith };
  z_is = record { value = (refl, refl); small = omega arith };
}

exact : exact_square at_p at_q ≡ 16797299
exact = refl

-- 64.0382843017578125
computed : to_bits binary32 (distance p q) ≡ 0x4280139a
unfolding distance squared magnitude_squared difference root sub add neg sum mul round of_bits to_bits
computed = refl

-- what the theorem says of the pair
worst : Accurate 16797299 0x4280139a
worst = rw (exact, computed) at (accurate p q at_p at_q first second)

-- the same by computing, and that no bound of a smaller part is met, so that the card's can't be halved
within : WithinMargin 3361784 16797299 0x4280139a
unfolding IsLe
within = le_by_compare _ _ tt

not_within : WithinMargin 3361785 16797299 0x4280139a → ⊥
unfolding IsLe
not_within h = not-le_of_lt (le_by_compare (suc (16797299 * 2 ^ 298)) (gap (square (units_of 0x4280139a) * 4096) (16797299 * 2 ^ 298) * 3361785) tt) h

-- the length is 34380292096 / 2 ^ 29
small : Measured 16797299 0x4280139a
unfolding IsLe
small = record { M = 34380292096; fraction = refl; near = le_by_compare _ _ tt }

-- four f32 up from the nearest one to the root of 2 is too far, and so is four down
too_long : WithinMargin 2097152 8192 0x3fb504f7 → ⊥
unfolding IsLe
too_long h = not-le_of_lt (le_by_compare (suc (8192 * 2 ^ 298)) (gap (square (units_of 0x3fb504f7) * 4096) (8192 * 2 ^ 298) * 2097152) tt) h

too_short : WithinMargin 2097152 8192 0x3fb504ef → ⊥
unfolding IsLe
too_short h = not-le_of_lt (le_by_compare (suc (8192 * 2 ^ 298)) (gap (square (units_of 0x3fb504ef) * 4096) (8192 * 2 ^ 298) * 2097152) tt) h
