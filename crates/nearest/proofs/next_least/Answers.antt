use Rattle.nearest.proofs.Settling.{next_is}
use Rattle.nearest.proofs.next_least.Goals as goal

pub returns : goal.returns
returns c =
    next_is c.args.least c.args.square c.args.number
    c.lesser.ensures c.greater.ensures c.lesser-2.ensures c.nearer_number.ensures
