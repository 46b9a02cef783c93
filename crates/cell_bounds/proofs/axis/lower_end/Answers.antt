-- `cell_bounds::axis::lower_end` meets its contract. Assumes nothing.
use mathlib.Core.Path.{sym, ◌∙◌}
use Rattle.cell_bounds.proofs.Ends.{lower_tested, lower_none}
use Rattle.cell_bounds.proofs.axis.lower_end.Goals as goal

pub returns-then-own-range : goal.returns-then-own-range
returns-then-own-range c =
    lower_tested c.args.size c.args.least c.args.v (sym c.is_usable.ensures ∙ c.if-is_usable.true)
    c.args.range c.args.cell _ c.cell_on-own.ensures c.if-own-range.true

pub returns : goal.returns
returns c = lower_none c.args.size c.args.least c.args.range c.args.cell
