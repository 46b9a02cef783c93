-- `sliver_limits` meets its contract.
use Rattle.numbers.proofs.RootSpecial.{no_number}
use Rattle.slivers.proofs.Limits.{slivers_are, no_slivers}
use Rattle.slivers.proofs.sliver_limits.Goals as goal

pub returns-then-low : goal.returns-then-low
returns-then-low c =
    let m = c.angle_limit in
    slivers_are c.args.threshold _ _ m.result (rw c.if-threshold.true tt) m.ensures
    (rw (← c.score.ensures, c.if-low.true) tt)

pub returns : goal.returns
returns c = rw no_number (no_slivers _ _)
