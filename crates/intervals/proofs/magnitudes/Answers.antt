-- `magnitudes` meets its contract. Assumes nothing.
use Rattle.intervals.proofs.Boxes.{magnitudes_held}
use Rattle.intervals.proofs.magnitudes.Goals as goal

pub returns : goal.returns
returns c =
    let o = c in
    magnitudes_held o.args.v o.squares-x.ensures o.squares-y.ensures o.squares-z.ensures
