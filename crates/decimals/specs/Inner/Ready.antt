-- What the inner functions require, and promise to each other.
use Rattle.std.specs.Prelude.{ℕ, ◌-◌, ◌*◌, ◌^◌, ◌≤◌, ◌<◌, ◌≡◌}

-- the parts of a number: at most 5 digits before the point, and as many behind it as there are places
pub record Decimal (units parts places : ℕ) : Type 0 where
  pub units_small : units < 10 ^ 5
  pub parts_small : parts < 10 ^ places
  pub places_few : places ≤ 6

-- a fraction below 100,000, over a power of ten up to 1,000,000
pub record Tenths (m d : ℕ) : Type 0 where
  pub power : ℕ
  pub power_is : d * power ≡ 1000000
  pub below : m < 100000 * d

-- m / d is n / d units of 2 ^ (h - 149), and n / d has at most 24 digits; with h more digits to drop it would have 24
-- before h is 106
pub record Scaling (m d n h : ℕ) : Type 0 where
  pub is : n * 2 ^ h ≡ m * 2 ^ 149
  pub high : n < 16777216 * d
  pub low_h : 106 ≤ h
  pub high_h : h ≤ 142
  pub reach : 8388608 * d ≤ n * 2 ^ (h - 106)
