-- `cell_bounds::axis::upper_end` meets its contract. Assumes nothing.
use mathlib.Core.Path.{sym, ◌∙◌}
use Rattle.cell_bounds.proofs.Ends.{upper_tested, upper_none}
use Rattle.cell_bounds.proofs.axis.upper_end.Goals as goal

pub returns-then-cell-range : goal.returns-then-cell-range
returns-then-cell-range c =
    upper_tested c.args.size c.args.least c.args.v (sym c.is_usable.ensures ∙ c.if-is_usable.true)
    c.args.range c.args.cell _ c.cell_on-own.ensures c.if-cell-range.true

pub returns : goal.returns
returns c = upper_none c.args.size c.args.least c.args.range c.args.cell
