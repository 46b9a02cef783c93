-- `is_ahead` meets its contract. Assumes nothing.
use mathlib.Core.Path.{sym, ◌∙◌}
use Rattle.pivot.proofs.candidates.is_ahead.Goals as goal

pub is_before-requires : goal.is_before-requires
is_before-requires c = let n = c in (n.requires.0, n.requires.1, n.requires.2, n.requires.3)

pub returns-then-score-top : goal.returns-then-score-top
returns-then-score-top c = rw (sym c.is_near.ensures ∙ c.if-is_near.true, c.if-score-top.true)

pub returns-else-score-top : goal.returns-else-score-top
returns-else-score-top c = rw (sym c.is_near.ensures ∙ c.if-is_near.true, c.if-score-top.false) c.is_before.ensures

pub returns-else-is_near : goal.returns-else-is_near
returns-else-is_near c = rw (sym c.is_near.ensures ∙ c.if-is_near.false) c.if-is_near.false
