-- `cell_bounds::axis::interval` meets its contract. Assumes nothing.
use Rattle.cell_bounds.proofs.Ends.{holding_on}
use Rattle.cell_bounds.proofs.axis.interval.Goals as goal

pub returns : goal.returns
returns c =
    holding_on c.args.size c.args.least c.args.range c.args.cell _ _ c.lower_end-lo.ensures
    c.upper_end-hi.ensures
