-- The decimal that the bytes of a number write, as a fraction of whole numbers, and the claim that whatever is read of
-- them is the f32 nearest to it. Definitions only.
use Rattle.std.specs.Prelude.{ℕ, ◌^◌, ◌≡◌, cond, List, [], ◌++◌, length, take, drop, Float}
use Rattle.std.specs.Float.{binary32}
use Rattle.std.specs.Float.Ieee.{neg, to_bits}
use Rattle.decimals.specs.Nearest.{Nearest, Alone, NotSubnormal}
use Rattle.numerals.specs.Format.{parsed, starts_with, digits, digits_value, number}

-- what stands behind the minus (byte 45), if there is one
abbrev pub behind_minus : List ℕ → List ℕ
behind_minus bs = cond (starts_with 45 bs) (drop 1 bs) bs

-- the digits of the whole part
abbrev pub whole_digits : List ℕ → List ℕ
whole_digits bs = take (digits (behind_minus bs)) (behind_minus bs)

-- the digits behind the point (byte 46), or none
abbrev pub fraction_of : List ℕ → List ℕ
fraction_of behind = cond (starts_with 46 behind) (take (digits (drop 1 behind)) (drop 1 behind)) []

abbrev pub fraction_digits : List ℕ → List ℕ
fraction_digits bs = fraction_of (drop (digits (behind_minus bs)) (behind_minus bs))

-- all digits write one whole number, over a power of ten
unfoldable pub numerator : List ℕ → ℕ
numerator bs = digits_value 0 (whole_digits bs ++ fraction_digits bs)

unfoldable pub denominator : List ℕ → ℕ
denominator bs = 10 ^ length (fraction_digits bs)

pub record NearestTo (bs : List ℕ) (v : Float) : Type 0 where
  -- v is x or minus x, and x the f32 nearest to the decimal: no other is as near, and it is not subnormal
  pub x : Float
  pub signed : v ≡ cond (starts_with 45 bs) (neg x) x
  pub nearest : Nearest (numerator bs) (denominator bs) (to_bits binary32 x)
  pub alone : Alone (numerator bs) (denominator bs) (to_bits binary32 x)
  pub normal : NotSubnormal (to_bits binary32 x)

-- The claim, for all bytes. `number_nearest` proves it.
abbrev pub NumberNearest : Type 0
NumberNearest = (bs : List ℕ) (v : Float) (rest : List ℕ) → number bs ≡ parsed v rest → NearestTo bs v
