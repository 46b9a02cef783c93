-- `yb_distance` meets its contract.
use mathlib.Core.Path.{ap₂, ◌∙◌}
use Rattle.vector.specs.Vector.{distance}
use Rattle.exports.proofs.yb_distance.Goals as goal

pub returns : goal.returns
returns c = c.distance.ensures ∙ ap₂ distance c.point.ensures c.point-2.ensures
