-- `fractions::lowest` meets its contract. Assumes nothing.
use mathlib.Core.Path.{sym, subst}
use Prim.Native.Nat.{ℕ, ◌<◌}
use Rattle.fractions.specs.Terms.{lowest}
use Rattle.fractions.proofs.LowestTerms.{divisor}
use Rattle.fractions.proofs.lowest.Goals as goal

pub nonzero_div-result : goal.nonzero_div-result
nonzero_div-result c = subst (λ (n : ℕ). 0 < n) (sym c.greatest_divisor-divisor.ensures) (divisor _ _ c.requires)

pub nonzero_div-result-2 : goal.nonzero_div-result-2
nonzero_div-result-2 c = nonzero_div-result c

pub returns : goal.returns
unfolding lowest
returns c = rw c.greatest_divisor-divisor.ensures
