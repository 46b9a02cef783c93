use Rattle.box_search.proofs.Bounds.{gap_of}
use Rattle.box_search.proofs.gap.Goals as goal

pub returns : goal.returns
returns c = gap_of c.args.v c.args.lo c.args.hi c.greater.ensures c.lesser.ensures
