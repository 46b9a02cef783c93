-- `decimals::quotient` meets its contract: of whole numbers up to 2 ^ 24 the division is the fraction, rounded. Assumes
-- nothing.
use native.Mathlib.Omega.{arith}
use lib.Ieee.{binary32}
use Rattle.decimals.proofs.Nearest.{positive, at_most}
use Rattle.decimals.proofs.Exact.{exact, exact_quotient}
use Rattle.decimals.proofs.quotient.Goals as goal

pub int_to_float-result : goal.int_to_float-result
int_to_float-result c = exact binary32 _ c.if-m-le-EXACT.true

pub int_to_float-result-then-m-le-EXACT : goal.int_to_float-result-then-m-le-EXACT
int_to_float-result-then-m-le-EXACT c = let l = at_most _ _ c.requires in exact binary32 _ (omega arith)

pub returns-then-m-le-EXACT : goal.returns-then-m-le-EXACT
returns-then-m-le-EXACT c = let t = c.requires in let l = at_most _ _ t in exact_quotient _ _ c.if-m-le-EXACT.true (omega arith) (positive _ _ t)
