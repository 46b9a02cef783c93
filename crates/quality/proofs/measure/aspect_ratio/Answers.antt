-- `aspect_ratio` meets its contract.
use Rattle.quality.specs.Measures.{aspect_ratio}
use Rattle.quality.proofs.measure.aspect_ratio.Goals as goal

pub returns-then-radius : goal.returns-then-radius
unfolding aspect_ratio
returns-then-radius c = rw c.if-radius.true

pub returns-else-radius : goal.returns-else-radius
unfolding aspect_ratio
returns-else-radius c = rw c.if-radius.false
