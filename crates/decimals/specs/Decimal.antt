-- The f32 of a decimal. Definitions only.
use Rattle.std.specs.Prelude.{ℕ, ◌+◌, ◌*◌, ◌^◌, Bool, false, cond, Float}
use Rattle.std.specs.Float.{binary32}
use Rattle.std.specs.Float.Ieee.{round, neg}

-- The f32 of a number: the one nearest to the decimal as written, the even one on a tie, and then the sign. All digits,
-- those of the whole part and those of the fraction, write one whole number, which is over a power of ten; that
-- fraction is rounded once. (`Nearest` of specs/Nearest.antt says over whole numbers what nearest is.) Without a
-- fraction there are 0 digits, which write 0, and it is the whole part (`decimal_whole`).
unfoldable pub decimal : Bool → ℕ → ℕ → ℕ → Float
decimal negative units parts places =
    let v = round binary32 false (units * 10 ^ places + parts) (10 ^ places) in
    cond negative (neg v) v
