-- `is_number` meets its contract. Assumes nothing.
use mathlib.Core.Path.{sym, subst}
use lib.Dec.{T}
use lib.Ieee.{of_bits}
use Rattle.known_radii.proofs.Larger.{finite_below}
use Rattle.known_radii.proofs.is_number.Goals as goal

pub returns-then-x : goal.returns-then-x
unfolding of_bits
returns-then-x c =
    let z = subst T (sym c.if-x.true) tt in
    λ h. record { above = z; number = finite_below c.args.x _ z (subst T (sym h) tt) tt }
