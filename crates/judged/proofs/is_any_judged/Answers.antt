-- `is_any_judged` meets its contract. The loop's invariant: no triple is judged in which a point below i comes first.
-- Assumes nothing.
use mathlib.Core.Path.{◌∙◌}
use native.Mathlib.Omega.{arith}
use Rattle.judged.proofs.Triples.{ask_start, ask_next, ask_none, ask_some}
use Rattle.judged.proofs.is_any_judged.Goals as goal

pub loop-i-init : goal.loop-i-init
loop-i-init c = ask_start c.requires

pub shape_of-w-then-is_first : goal.shape_of-w-then-is_first
shape_of-w-then-is_first c =
    c.is_first.auto.w ∙ c.loop-i.invariant.words

pub returns-then-is_first : goal.returns-then-is_first
returns-then-is_first c = ask_some c.is_first.ensures.0 c.if-is_first.true

pub loop-i-preserved : goal.loop-i-preserved
loop-i-preserved c =
    ask_next c.loop-i.invariant c.is_first.new.w c.is_first.ensures.0
    c.if-is_first.false c.is_first.ensures.1 c.is_first.auto.w

pub returns : goal.returns
returns c = ask_none c.loop-i.invariant (λ t. omega (arith, t.point, t.tried, c.loop-i-test.false))
