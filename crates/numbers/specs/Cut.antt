-- From an f32 to a whole number. Definitions only.
use Rattle.std.specs.Prelude.{ℕ, ◌+◌, ◌*◌, ◌/◌, ◌%◌, cond, ltb, Float}
use Rattle.std.specs.Float.{nan, inf, fin}
use Rattle.std.specs.Float.Ieee.{up, down, odd, to_unsigned}

-- the scope's cutting to a whole number, Rust's `as u32`: without the fraction, held to 0 .. 2 ^ 32 - 1; 0 for a
-- not-a-number.
-- The Rust cuts cells and ranges to an i32 and places to a usize: inside the domain that is the same, see crate `cuts`.
abbrev pub cut : Float → ℕ
cut = to_unsigned 32

-- the scope's `ceil`, IEEE 754's roundToIntegralTowardPositive: the least whole number that is not below x.
-- A number between -1 and 0 gives -0.
unfoldable pub ceil : Float → Float
unfolding odd
ceil nan = nan
ceil (inf s) = inf s
ceil (fin s m e) =
    let n = m * up e / down e in
    odd 128 s (cond s n (cond (ltb 0 (m * up e % down e)) (n + 1) n)) 0 0
