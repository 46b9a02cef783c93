-- `axis::parts` meets its contract. Assumes nothing.
use Rattle.intervals.proofs.Ends.{parts_held}
use Rattle.intervals.proofs.axis.parts.Goals as goal

pub returns : goal.returns
returns c =
    let o = c in parts_held _ _ _ _ _ _ _ _ o.products-first.ensures o.products-second.ensures
