-- `measures` meets its contract: what is known without the angles is what the measures have.
use mathlib.Core.Path.{ap}
use Rattle.quality.specs.Measures.{measures}
use Rattle.quality.specs.Inner.Shape.{shape}
use Rattle.quality.specs.declared.Shape.{Shape}
use Rattle.quality.proofs.measure.measures.Goals as goal

pub returns : goal.returns
unfolding measures shape
returns c =
    let p = c.requires in
    let aspect = ap (λ (k : Shape). k.aspect_ratio) p in
    let edge = ap (λ (k : Shape). k.edge_ratio) p in
    cc
