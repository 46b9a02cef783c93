-- `filter_around` meets its contract. Assumes nothing.
use mathlib.Core.Path.{subst}
use Rattle.vector.specs.declared.Point3f.{Point3f}
use Rattle.decisions.specs.Decisions.{reach}
use Rattle.nearby.specs.Inner.Narrow.{Filters}
use Rattle.seed.proofs.triples.filter_around.Goals as goal

pub returns : goal.returns
returns c =
    let a = c.args in
    subst (λ (q : Point3f). Filters a.p.scene q q (reach a.p.radius) c.filter_of.result) c.point_at-place.ensures c.filter_of.ensures
