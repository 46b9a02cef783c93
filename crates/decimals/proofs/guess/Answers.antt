-- `decimals::guess` is safe: both numbers are f64, and a number below another is no NaN, so that its bits may be read.
-- Assumes nothing.
use native.Mathlib.Omega.{arith}
use lib.Ieee.{binary64}
use Rattle.decimals.proofs.Exact.{exact, below_no_nan}
use Rattle.decimals.proofs.guess.Goals as goal

pub int_to_float-v : goal.int_to_float-v
int_to_float-v c = let h = c.requires.0 in exact binary64 _ (omega arith)

pub int_to_float-v-2 : goal.int_to_float-v-2
int_to_float-v-2 c = let h = c.requires.1 in exact binary64 _ (omega arith)

pub float_to_bits-x : goal.float_to_bits-x
float_to_bits-x c = below_no_nan _ _ c.if-v.true
