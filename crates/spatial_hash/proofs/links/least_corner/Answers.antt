-- `spatial_hash::links::least_corner` meets its contract. Assumes nothing.
use native.Mathlib.Omega.{arith}
use mathlib.Core.Path.{sym, subst}
use lib.Ieee.{of_bits}
use Rattle.vector.specs.Inner.Numbers.{Finite}
use Rattle.spatial_hash.proofs.links.least_corner.Goals as goal

pub returns-then-n-eq0 : goal.returns-then-n-eq0
unfolding of_bits
returns-then-n-eq0 c = record { x_finite = tt; y_finite = tt; z_finite = tt }

pub loop-i-init : goal.loop-i-init
loop-i-init c = subst Finite (sym c.point_at-least.ensures) (c.requires.2 0 (omega arith))

pub lower-least-requires : goal.lower-least-requires
lower-least-requires c =
    (c.loop-i.invariant, subst Finite (sym c.point_at.ensures) (c.requires.2 c.loop-i.i c.loop-i-test.true))
