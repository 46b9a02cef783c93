-- `score_bound` meets its contract.
use Rattle.score_bounds.specs.Inner.Bound.{score_bound}
use Rattle.score_bounds.proofs.score_bound.Goals as goal

pub returns : goal.returns
unfolding score_bound
returns c = cc
