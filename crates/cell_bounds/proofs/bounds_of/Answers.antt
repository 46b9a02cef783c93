-- `cell_bounds::bounds_of` meets its contract. Assumes nothing.
use Rattle.cell_bounds.proofs.Ends.{holding}
use Rattle.cell_bounds.proofs.bounds_of.Goals as goal

pub returns : goal.returns
returns c =
    holding c.args.grid c.args.cell c.args.range _ _ _ c.interval-x.ensures c.interval-y.ensures
    c.interval-z.ensures
