-- `is_pivotable` meets its contract. Assumes nothing.
use mathlib.Core.Path.{sym}
use Rattle.decisions.specs.Decisions.{pivotable}
use Rattle.decisions.proofs.is_pivotable.Goals as goal

pub returns-then-not-d-radius : goal.returns-then-not-d-radius
unfolding pivotable
returns-then-not-d-radius c = rw (sym c.apart_at-d.ensures, c.if-not-d-radius.true)

pub returns-else-not-d-radius : goal.returns-else-not-d-radius
unfolding pivotable
returns-else-not-d-radius c = rw (sym c.apart_at-d.ensures, c.if-not-d-radius.false)
