-- How good a length is (request 10), over whole numbers: points on a lattice of 64ths, the exact square of their
-- distance, and how near to it the square of the computed length is. Definitions only.
use Rattle.std.specs.Prelude.{ℕ, ◌+◌, ◌-◌, ◌*◌, ◌^◌, ◌≤◌, ◌<◌, ◌≡◌, Bool, cond, T, Float}
use Rattle.std.specs.Bool.{beq}
use Rattle.std.specs.Float.Ieee.{eq}
use Rattle.std.specs.Float.Ieee.Exact.{HasValue}
use Rattle.patterns.specs.Pattern.{units_of}
use Rattle.vector.specs.declared.Point3f.{Point3f}

-- ---- points on the lattice

-- a whole number with a sign
pub record Signed : Type 0 where
  pub negative : Bool
  pub size : ℕ

-- the f32 x is v / 64, and at most 1,000 in size; 0 and -0 are both 0 / 64
pub record Coordinate (x : Float) (v : Signed) : Type 0 where
  pub value : HasValue x v.negative v.size 64
  pub small : v.size ≤ 64 * 1000

-- three coordinates, in 64ths
pub record Place : Type 0 where
  pub x : Signed
  pub y : Signed
  pub z : Signed

-- the point p is at that place
pub record At (p : Point3f) (v : Place) : Type 0 where
  pub x_is : Coordinate p.x v.x
  pub y_is : Coordinate p.y v.y
  pub z_is : Coordinate p.z v.z

-- ---- the exact square of the distance

-- how far apart two whole numbers are, without and with a sign
abbrev pub gap : ℕ → ℕ → ℕ
gap a b = a - b + (b - a)

abbrev pub signed_apart : Signed → Signed → ℕ
signed_apart v w = cond (beq v.negative w.negative) (gap v.size w.size) (v.size + w.size)

abbrev pub square : ℕ → ℕ
square n = n * n

-- the card's D, a number of 4096ths
abbrev pub exact_square : Place → Place → ℕ
exact_square v w =
    square (signed_apart v.x w.x) + square (signed_apart v.y w.y) + square (signed_apart v.z w.z)

-- ---- how near the computed length is

-- An f32 with the bits b is the fraction u / 2 ^ 149, where u is `unitsOf b`, and its square is u² / 2 ^ 298.
-- That differs from D / 4096 by at most (D / 4096) / part; here all of it is times 2 ^ 298 * 4096 * part.
abbrev pub WithinMargin : ℕ → ℕ → ℕ → Type 0
WithinMargin part D b = gap (square (units_of b) * 4096) (D * 2 ^ 298) * part ≤ D * 2 ^ 298

-- What the theorem says of the bits b of a computed length and the exact square D / 4096: the length is a number
-- (infinity has the bits 0x7f800000), its square differs from the exact one by at most the card's part, it is 0
-- where the exact one is, and otherwise it is at least 1/64.
pub record Accurate (D b : ℕ) : Type 0 where
  pub number : b < 0x7f800000
  pub near : WithinMargin 2097152 D b
  pub none : D ≡ 0 → b ≡ 0
  pub some : 0 < D → 2 ^ 149 ≤ units_of b * 64

-- The same in smaller numbers: the length is M / 2 ^ 29, and M² differs from 2 ^ 46 * D by at most 2 ^ 25 * D.
pub record Measured (D b : ℕ) : Type 0 where
  pub M : ℕ
  pub fraction : units_of b ≡ M * 2 ^ 120
  pub near : gap (square M) (2 ^ 46 * D) ≤ 2 ^ 25 * D

-- ---- equal points, on the lattice or not

-- as f32 are compared: 0 and -0 alike
pub record Equal (p q : Point3f) : Type 0 where
  pub x_equal : T (eq p.x q.x)
  pub y_equal : T (eq p.y q.y)
  pub z_equal : T (eq p.z q.z)
