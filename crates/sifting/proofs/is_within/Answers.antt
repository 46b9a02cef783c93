-- `is_within` meets its contract. Assumes nothing.
use mathlib.Core.Path.{ap, ◌∙◌}
use mathlib.Core.Bool.{not}
use lib.Ieee.{Float, lt}
use Rattle.vector.specs.declared.Point3f.{Point3f}
use Rattle.vector.specs.Vector.{squared}
use Rattle.sifting.proofs.is_within.Goals as goal

pub returns : goal.returns
returns c =
    let a = c.args in
    ap (λ (x : Float). not (lt a.limit x)) (c.distance_squared.ensures ∙ ap (λ (q : Point3f). squared q a.place) c.point_at.ensures)
