-- `is_unreached` meets its contract. Assumes nothing.
use mathlib.Core.Path.{sym, subst}
use lib.Dec.{T}
use Rattle.box_filters.proofs.is_unreached.Goals as goal

pub returns-then-not-is_out_of_reach : goal.returns-then-not-is_out_of_reach
returns-then-not-is_out_of_reach c = λ h. absurd (subst T (sym h) tt)

pub returns : goal.returns
returns c =
    let b = c.is_out_of_reach in
    λ h. record { beyond = rw (← b.ensures, c.if-not-is_out_of_reach.false) tt; plain = c.is_plain.ensures h }
