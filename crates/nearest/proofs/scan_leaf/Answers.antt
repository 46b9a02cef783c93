use Rattle.nearest.proofs.Settling.{all_farther, settles}
use Rattle.nearest.proofs.scan_leaf.Goals as goal

pub returns-then-best-first : goal.returns-then-best-first
returns-then-best-first c =
    all_farther c.requires.best_limited.0 c.requires.best_limited.1
    c.requires.numbers_of_points.1 c.two_least-least.ensures c.if-best-first.true

pub returns-then-limit-best : goal.returns-then-limit-best
returns-then-limit-best c =
    settles c.requires.best_limited.0
    c.requires.best_limited.1
    c.requires.numbers_of_points.1
    c.two_least-least.ensures
    c.limit_of-limit.result c.limit_of-limit.ensures
    c.if-limit-least.true c.if-limit-best.true
