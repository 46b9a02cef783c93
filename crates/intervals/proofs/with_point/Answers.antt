-- `with_point` meets its contract. Assumes nothing.
use Rattle.intervals.proofs.Boxes.{grown}
use Rattle.intervals.proofs.with_point.Goals as goal

pub returns : goal.returns
returns c =
    let o = c in
    grown _ _ o.lesser.ensures o.lesser-2.ensures o.lesser-3.ensures c.greater.ensures
    c.greater-2.ensures c.greater-3.ensures
