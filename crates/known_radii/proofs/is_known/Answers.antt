-- `is_known` meets its contract. Assumes nothing.
use mathlib.Core.Path.{sym, subst}
use mathlib.Core.Bool.{false}
use lib.Dec.{T}
use lib.Ieee.{inf, lt}
use Rattle.numbers.specs.Rounded.{◌⊗◌}
use Rattle.numbers.proofs.Compare.{infinite}
use Rattle.known_radii.specs.Inner.Known.{flat_cloud, up_to}
use Rattle.known_radii.proofs.is_known.Goals as goal

pub returns-then-radius-s : goal.returns-then-radius-s
returns-then-radius-s c =
    let a = c.args in
    let h : T (lt (a.radius ⊗ a.s.max_edge_factor) (inf false)) = rw (← infinite, c.if-radius-s.true) tt in
    λ _. flat_cloud c.if-flat.true h

pub returns-then-radius-x : goal.returns-then-radius-x
returns-then-radius-x c = λ h. up_to (rw c.in-Radius.is (subst T (sym h) tt, subst T (sym c.if-radius-x.true) tt))
