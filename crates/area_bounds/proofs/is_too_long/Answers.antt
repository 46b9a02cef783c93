-- `is_too_long` meets its contract: the root of the least area is the least that an edge ratio of 1 or more makes of
-- it.
use mathlib.Core.Path.{sym, subst}
use lib.Dec.{T}
use Rattle.area_bounds.proofs.Refused.{too_long_is}
use Rattle.area_bounds.proofs.is_too_long.Goals as goal

pub returns-then-not-least : goal.returns-then-not-least
returns-then-not-least c = λ h. absurd (subst T (sym h) tt)

pub returns : goal.returns
returns c =
    let s = c in
    λ h. too_long_is _ _ _ (subst T (sym s.well_formed.1.0.1) tt) (rw (c.if-not-least.false) tt)
    (rw (← c.sqrt.ensures, h) tt)
