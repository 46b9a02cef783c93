-- What Rust says of `min` and `max` on f32: of two zeros of unlike sign either may come back. Definitions only.
use Rattle.std.specs.Prelude.{◌≡◌, ◌⊎◌, Bool, true, false, ◌&&◌, ◌||◌, eqb, Float}
use Rattle.std.specs.Bool.{beq}
use Rattle.std.specs.Float.{nan, inf, fin}

-- a zero with the sign s: `isZeroOf true` is of -0
abbrev pub is_zero_of : Bool → Float → Bool
is_zero_of s nan = false
is_zero_of s (inf t) = false
is_zero_of s (fin t m e) = beq s t && eqb m 0

-- one is +0 and the other -0
unfoldable pub unlike_zeros : Float → Float → Bool
unlike_zeros a b = (is_zero_of true a && is_zero_of false b) || (is_zero_of false a && is_zero_of true b)

-- m is f, but that of two zeros of unlike sign it may give either
pub record UpToZeros (f m : Float → Float → Float) : Type 0 where
  pub either : (a b : Float) → unlike_zeros a b ≡ true → (m a b ≡ a) ⊎ (m a b ≡ b)
  pub else : (a b : Float) → unlike_zeros a b ≡ false → m a b ≡ f a b
