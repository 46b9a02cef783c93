-- `needle_limit` meets its contract.
use Rattle.needle_limits.proofs.Limits.{needle_limit, no_needle_limit}
use Rattle.needle_limits.proofs.needle_limit.Goals as goal

pub returns-then-low : goal.returns-then-low
returns-then-low c =
    needle_limit _ (rw c.if-threshold.true tt) (rw (← c.score.ensures, c.if-low.true) tt) c.thin_limit.ensures

pub returns : goal.returns
returns c = no_needle_limit _ _ _
