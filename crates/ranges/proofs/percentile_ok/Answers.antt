-- `ranges::percentile_ok` meets its contract. Assumes nothing.
use Rattle.ranges.specs.Range.{percentile_inside}
use Rattle.ranges.proofs.percentile_ok.Goals as goal

pub returns : goal.returns
unfolding percentile_inside
returns c = c.in_range.ensures
