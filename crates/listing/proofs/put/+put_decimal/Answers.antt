-- The proof of the cycle of calls {put_decimal}: a small number is a digit, any other what its tenth puts and a digit.
-- The measure is the number. Assumes nothing.
use native.Mathlib.Omega.{arith}
use Rattle.listing.proofs.Decimal.{put_small, put_more_digits}
use Rattle.listing.proofs.put.+put_decimal.Goals as goal

pub returns-then-n-lt10 : goal.returns-then-n-lt10
returns-then-n-lt10 t c = put_small _ _ _ _ _ c.if-n-lt10.true c.put_byte.ensures

pub put_decimal-next-requires : goal.put_decimal-next-requires
put_decimal-next-requires t c = let p = c.requires in let h = c.if-n-lt10.false in omega arith

pub returns : goal.returns
returns t c =
    let f = c.ranges.n in put_more_digits _ _ _ _ _ _ _
    c.if-n-lt10.false f.fits
    c.put_decimal-next.ensures.0 c.put_byte-2.ensures
