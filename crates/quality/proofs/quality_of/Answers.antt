-- `quality_of` meets its contract.
use mathlib.Core.Path.{◌∙◌}
use Rattle.quality.specs.Inner.Shape.{quality_of}
use Rattle.quality.proofs.Shapes.{shape_full}
use Rattle.quality.proofs.quality_of.Goals as goal

pub returns-then-shape : goal.returns-then-shape
unfolding quality_of
returns-then-shape c = rw c.if-shape.true c.degenerate.ensures

pub measures-requires : goal.measures-requires
measures-requires c =
    let a = c.before.before in
    a.requires ∙ shape_full a.args.a a.args.b a.args.c a.args.shape.area c.if-shape.false

pub returns : goal.returns
unfolding quality_of
returns c = rw c.if-shape.false c.measures.ensures
