-- `bounds::covering` meets its contract. Assumes nothing.
use Rattle.bounds.proofs.Beyond.{covers}
use Rattle.bounds.proofs.covering.Goals as goal

pub returns : goal.returns
returns c =
    let s = c.before.before.before in covers s.args.place s.args.limit _ _ _ s.requires c.interval-x.ensures
    c.interval-y.ensures c.interval-z.ensures
