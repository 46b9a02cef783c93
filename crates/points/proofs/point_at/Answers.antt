use mathlib.Core.Path.{refl}
use Rattle.points.specs.Points.{point_at}
use Rattle.points.proofs.point_at.Goals as goal

pub returns : goal.returns
unfolding point_at
returns c = refl
