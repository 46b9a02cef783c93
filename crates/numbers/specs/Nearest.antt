-- That `root` is the square root that IEEE 754 asks for: for every finite f32 x above zero, `root x` is a
-- finite f32 above zero, strictly nearer to the true root than every other f32, so no tie occurs. It is proved:
-- `root_nearest` in proofs/RootNearest. Definitions only.
-- It is said over whole numbers. Let x be X units of
-- 2^-298, and let `root x` and another f32 y be R and Y units of 2^-149, which every finite f32 of sign + is a
-- whole number of. Then the true root of x is √X units of 2^-149, and R is nearer to it than Y exactly where
-- the middle of the two, (R + Y) / 2, lies on Y's side of √X: below it for a smaller Y, (R + Y)^2 < 4X, and
-- above it for a larger one, 4X < (R + Y)^2. Of the f32 that are no such Y, one below zero is farther from √X
-- than 0 is, and an infinity is farther than any number.
use Rattle.std.specs.Prelude.{ℕ, ◌+◌, ◌*◌, ◌^◌, ◌<◌, false, T, Float}
use Rattle.std.specs.Float.{binary32}
use Rattle.std.specs.Float.Ieee.{fits}
use Rattle.std.specs.Float.Ieee.Exact.{HasValue}
use Rattle.numbers.specs.Root.{root}

-- R is strictly nearer to √X than Y is, unless they are equal
abbrev pub Nearer : ℕ → ℕ → ℕ → Type 0
Nearer X R Y = (Y < R → (R + Y) * (R + Y) < 4 * X) × (R < Y → 4 * X < (R + Y) * (R + Y))

pub record IsNearest (x : Float) : Type 0 where
  pub X : ℕ
  pub R : ℕ
  pub argument : HasValue x false X (2 ^ 298)
  pub result : HasValue (root x) false R (2 ^ 149)
  pub held : T (fits binary32 (root x))
  pub above_zero : 0 < R
  pub nearest : (y : Float) (Y : ℕ) → T (fits binary32 y) → HasValue y false Y (2 ^ 149) → Nearer X R Y
