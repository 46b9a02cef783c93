-- `least_area` meets its contract. Assumes nothing.
use mathlib.Core.Bool.{false}
use lib.Dec.{T}
use lib.Ieee.{inf, lt}
use Rattle.numbers.specs.Rounded.{◌⊗◌}
use Rattle.numbers.proofs.Compare.{infinite}
use Rattle.filters.proofs.Refusals.{least_own, least_flat}
use Rattle.filters.proofs.least_area.Goals as goal

pub returns-then-s : goal.returns-then-s
returns-then-s c =
    let a = c.args in
    let h : T (lt (a.radius ⊗ a.s.max_edge_factor) (inf false)) = rw (← infinite, c.if-radius-s.true) tt in
    least_flat a.s a.radius h

pub returns-else-s : goal.returns-else-s
returns-else-s c = let a = c.args in least_own a.s a.radius

pub returns-else-radius-s : goal.returns-else-radius-s
returns-else-radius-s c = let a = c.args in least_own a.s a.radius
