-- `point_box` meets its contract. Assumes nothing.
use Rattle.intervals.proofs.Boxes.{point_within}
use Rattle.intervals.proofs.point_box.Goals as goal

pub returns : goal.returns
returns c = λ f. point_within c.args.p f
