-- `points_left` meets its contract. Assumes nothing.
use native.Mathlib.Omega.{arith}
use Rattle.seedless.proofs.points_left.Goals as goal

pub returns-then-from-n : goal.returns-then-from-n
returns-then-from-n c = omega (arith, c.if-from-n.true, c.requires.1)

pub returns : goal.returns
returns c = omega (arith, c.requires.1)
