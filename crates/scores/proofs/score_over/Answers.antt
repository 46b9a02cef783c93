-- `score_over` meets its contract: what the squares turn down has a score below `top`. Assumes nothing.
use mathlib.Core.Path.{ap}
use Rattle.scores.specs.declared.Side.{Side}
use Rattle.scores.proofs.Over.{over_found, over_thin}
use Rattle.scores.proofs.score_over.Goals as goal

pub returns-then-is_thin : goal.returns-then-is_thin
returns-then-is_thin c =
    let n = c in
    let a = n.args in
    over_thin a.s a.radius a.top a.side.p a.side.q a.t n.requires.1
    (rw (
      ← ap (λ (x : Side). x.square)
          n.requires.0,
      ← c.cross_squared-cross.ensures,
      ← c.distance_squared-to_q.ensures,
      ← c.distance_squared-to_p.ensures,
    )
    (c.is_thin.ensures c.if-is_thin.true).own)

pub returns : goal.returns
returns c =
    let n = c in
    let a = n.args in
    over_found a.s a.radius a.top a.side.p a.side.q a.t
    (rw (
      ← ap (λ (x : Side). x.length)
          n.requires.0,
      ← c.cross_squared-cross.ensures,
      ← c.distance_squared-to_q.ensures,
      ← c.distance_squared-to_p.ensures,
    )
    c.score_near.ensures)
