-- `large_limit` meets its contract: its guess is tested.
use mathlib.Core.Path.{sym, subst}
use lib.Dec.{T}
use lib.Ieee.{Float, binary32}
use lib.Ieee.Fits.{add-fits}
use Rattle.numbers.specs.Rounded.{◌⊗◌}
use Rattle.quality.specs.Measures.{half}
use Rattle.area_bounds.specs.Inner.AreaBound.{TooLong}
use Rattle.numbers.proofs.Compare.{infinite}
use Rattle.numbers.proofs.RootSpecial.{no_number}
use Rattle.area_bounds.proofs.Refused.{large_limit_is, no_large_limit}
use Rattle.area_bounds.proofs.large_limit.Goals as goal

pub returns-then-is_too_long : goal.returns-then-is_too_long
returns-then-is_too_long c =
    let a = c.args in
    large_limit_is _ _ _ (add-fits binary32 _ _) (subst T (sym c.if-t.true) tt)
    (rw (← infinite, c.if-radius.true) tt)
    (subst (λ (x : Float). TooLong a.radius (x ⊗ half) a.factor) c.sqrt.ensures (c.is_too_long.ensures c.if-is_too_long.true))

pub returns : goal.returns
returns c = rw no_number (no_large_limit _ _)
