-- What IEEE 754 asks of a rounded number, over whole numbers: of a fraction m / d and the bit pattern b of an f32.
-- Definitions only.
-- That `decimal` of Decimal.antt is such a number is the theorems `decimal_nearest`, `decimal_alone` and
-- `decimal_normal` of proofs/Decimal.antt.
use Rattle.std.specs.Prelude.{ℕ, ◌+◌, ◌-◌, ◌*◌, ◌%◌, ◌^◌, ◌≤◌, ◌<◌, ◌≡◌, ◌⊎◌, ◌≢◌}
use Rattle.patterns.specs.Pattern.{units_of}

-- how far apart two whole numbers are
abbrev pub whole_gap : ℕ → ℕ → ℕ
whole_gap p q = p - q + (q - p)

-- how far the f32 with the pattern b, which is `unitsOf b` times 2 ^ -149, is from m / d: times d * 2 ^ 149
abbrev pub error : ℕ → ℕ → ℕ → ℕ
error m d b = whole_gap (units_of b * d) (m * 2 ^ 149)

-- roundTiesToEven: of all finite f32 with a clear sign none is nearer to m / d than b, and where another is as near b's
-- last digit is even.
-- (0x7f800000 is infinity. What would round to that is left out: a number of the file is below 100,000.)
pub record Nearest (m d b : ℕ) : Type 0 where
  pub number : b < 0x7f800000
  pub nearest : (c : ℕ) → c < 0x7f800000 → error m d b ≤ error m d c
  pub even : (c : ℕ) → c < 0x7f800000 → c ≢ b → error m d c ≡ error m d b → b % 2 ≡ 0

-- m / d is no tie: every other f32 is farther from it
abbrev pub Alone : ℕ → ℕ → ℕ → Type 0
Alone m d b = (c : ℕ) → c < 0x7f800000 → c ≢ b → error m d b < error m d c

-- b is not the pattern of a subnormal number, whose exponent field is 0 and whose digits are not: it is zero, or its
-- exponent field is at least 1
abbrev pub NotSubnormal : ℕ → Type 0
NotSubnormal b = (b ≡ 0) ⊎ (0x00800000 ≤ b)
