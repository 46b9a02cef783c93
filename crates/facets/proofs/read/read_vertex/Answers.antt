-- `read::read_vertex` meets its contract: three stores are a run of stores. Assumes nothing.
use native.Mathlib.Omega.{arith}
use lib.ListN.{length-set}
use Rattle.facets.proofs.Puts.{read_vertex}
use mathlib.Core.Path.{ap, ◌∙◌}
use Rattle.numbers.specs.Rounded.{f32}
use Rattle.facets.proofs.read.read_vertex.Goals as goal

pub bounds-corners-to-2 : goal.bounds-corners-to-2
bounds-corners-to-2 c = simp length-set (omega arith)

pub bounds-corners-to-3 : goal.bounds-corners-to-3
bounds-corners-to-3 c = simp length-set (omega arith)

pub returns : goal.returns
returns c =
    read_vertex _ _ c.args.corners.now _ _ _ _
    (c.float_of.ensures ∙ ap f32 c.word_at.ensures)
    (c.float_of-2.ensures ∙ ap f32 c.word_at-2.ensures)
    (c.float_of-3.ensures ∙ ap f32 c.word_at-3.ensures)
