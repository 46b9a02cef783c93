-- `aspect_limit` meets its contract: its guess is tested.
use Rattle.numbers.proofs.RootSpecial.{no_number}
use Rattle.score_bounds.proofs.Aspect.{aspect_limit_is, no_aspect_limit}
use Rattle.score_bounds.proofs.aspect_limit.Goals as goal

pub returns-then-score-threshold : goal.returns-then-score-threshold
returns-then-score-threshold c = aspect_limit_is _ _ (rw (← c.score.ensures, c.if-score-threshold.true) tt)

pub returns : goal.returns
returns c = rw no_number (no_aspect_limit _)
