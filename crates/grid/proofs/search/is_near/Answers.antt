-- `grid::search::is_near` meets its contract. Assumes nothing.
use mathlib.Core.Path.{ap, ◌∙◌}
use Rattle.grid.specs.Grid.{in_range}
use Rattle.grid.proofs.search.is_near.Goals as goal

pub returns-then-not-indexed : goal.returns-then-not-indexed
returns-then-not-indexed c = rw c.if-not-indexed.true

pub returns-else-not-indexed : goal.returns-else-not-indexed
returns-else-not-indexed c =
    rw c.if-not-indexed.false
    (c.is_in_range.ensures ∙ ap (in_range c.args.range c.args.c)
    c.read_cell.ensures)
