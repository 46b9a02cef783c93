-- The number of the file is the f32 nearest to the decimal as written, no other is as near, and it is no subnormal
-- number. Assumes nothing.
use mathlib.Core.Path.{◌≡◌, refl, sym, ap, ◌∙◌}
use mathlib.Core.Bool.{true, false}
use Prim.Native.Nat.{ℕ, suc, ◌+◌, ◌-◌, ◌*◌, ◌^◌, ◌≤◌, ◌<◌}
use native.Mathlib.Nat.{mul-le-mul_right}
use native.Mathlib.Omega.{arith}
use lib.IntN.{pos}
use lib.Pow.{pow-add}
use lib.Ieee.{binary32, of_int, neg, round, to_bits}
use Rattle.decimals.specs.Decimal.{decimal}
use Rattle.decimals.specs.Nearest.{Nearest, Alone, NotSubnormal}
use Rattle.decimals.specs.Inner.Ready.{Decimal, Tenths}
use Rattle.decimals.proofs.Nearest.{Rounded, tenths_rounded}

-- the sign is taken last, and a number without a fraction is its whole part
pub decimal_negative : (units parts places : ℕ) → decimal true units parts places ≡ neg (decimal false units parts places)
unfolding decimal
decimal_negative units parts places = refl

pub decimal_whole : (n : ℕ) → decimal false n 0 0 ≡ of_int binary32 (pos n)
unfolding decimal of_int
decimal_whole n = let e : n * 1 + 0 ≡ n = omega arith in ap (λ (m : ℕ). round binary32 false m 1) e

module _ (units parts places : ℕ) (D : Decimal units parts places) where
  pub decimal_tenths : Tenths (units * 10 ^ places + parts) (10 ^ places)
  decimal_tenths =
      let few = D.places_few in
      let six : places + (6 - places) ≡ 6 = omega arith in
      record {
        power = 10 ^ (6 - places);
        power_is = sym (pow-add 10 places (6 - places)) ∙ ap (λ (k : ℕ). 10 ^ k) six;
        below = under (10 ^ places) D.parts_small;
      }
    where
      under : (t : ℕ) → parts < t → units * t + parts < 100000 * t
      under t p = let u = D.units_small in let l : suc units * t ≤ 100000 * t = mul-le-mul_right t u in omega arith

  decimal_rounded : Rounded (units * 10 ^ places + parts) (10 ^ places) (to_bits binary32 (decimal false units parts places))
  unfolding decimal
  decimal_rounded = tenths_rounded (units * 10 ^ places + parts) (10 ^ places) decimal_tenths

  pub decimal_nearest : Nearest (units * 10 ^ places + parts) (10 ^ places) (to_bits binary32 (decimal false units parts places))
  decimal_nearest = decimal_rounded.nearest

  pub decimal_alone : Alone (units * 10 ^ places + parts) (10 ^ places) (to_bits binary32 (decimal false units parts places))
  decimal_alone = decimal_rounded.alone

  pub decimal_normal : NotSubnormal (to_bits binary32 (decimal false units parts places))
  decimal_normal = decimal_rounded.normal
