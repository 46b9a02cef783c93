-- `cell_bounds::axis::farthest` meets its contract. Assumes nothing.
use mathlib.Core.Path.{sym, ◌∙◌}
use Rattle.cell_bounds.proofs.Reach.{reaching_none, reaching_tested}
use Rattle.cell_bounds.proofs.axis.farthest.Goals as goal

pub returns-then-holds_place : goal.returns-then-holds_place
returns-then-holds_place c =
    reaching_tested c.args.v c.args.lo c.args.hi c.requires (sym c.holds_place.ensures ∙ c.if-holds_place.true) _
    c.max.ensures

pub returns : goal.returns
returns c = reaching_none c.args.v c.args.lo c.args.hi c.requires
