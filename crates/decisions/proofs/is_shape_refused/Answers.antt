-- `is_shape_refused` meets its contract. Assumes nothing.
use Rattle.decisions.proofs.Completed.{shape_low, shape_long}
use Rattle.decisions.proofs.is_shape_refused.Goals as goal

pub returns-then-score_bound-s : goal.returns-then-score_bound-s
returns-then-score_bound-s c = let a = c.args in λ h. shape_low a.s a.radius c.score_bound.ensures c.if-score_bound-s.true

pub returns-else-score_bound-s : goal.returns-else-score_bound-s
returns-else-score_bound-s c = let a = c.args in λ h. shape_long a.s a.radius c.sqrt.ensures h
