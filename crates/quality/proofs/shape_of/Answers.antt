-- `shape_of` meets its contract.
use Rattle.quality.specs.Inner.Shape.{shape_of}
use Rattle.quality.proofs.shape_of.Goals as goal

pub returns-then-area : goal.returns-then-area
unfolding shape_of
returns-then-area c = rw c.if-area.true c.flat.ensures

pub returns : goal.returns
unfolding shape_of
returns c = rw c.if-area.false c.shape.ensures
