-- Floats without a minus sign, and floats between bounds. For contracts inside: the main call's statement cites
-- none of it. Definitions only.
use Rattle.std.specs.Prelude.{Bool, false, not, T, Float}
use Rattle.std.specs.Float.{nan, inf, fin}
use Rattle.std.specs.Float.Ieee.{neg, le}

-- not a NaN, and without a minus sign: +0, all above it, and +infinity
abbrev pub unsigned : Float → Bool
unsigned nan = false
unsigned (inf s) = not s
unsigned (fin s m e) = not s

-- x lies between -v and v
pub record Bounded (x v : Float) : Type 0 where
  pub upper : T (le x v)
  pub lower : T (le (neg v) x)
