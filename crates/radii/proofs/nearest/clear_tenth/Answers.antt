-- A store behind the samples' densities. Assumes nothing.
use Prim.Native.Nat.{◌+◌}
use native.Mathlib.Omega.{arith}
use lib.Seq.{take-set-le}
use Rattle.radii.proofs.nearest.clear_tenth.Goals as goal

pub returns : goal.returns
returns c = take-set-le c.args.n _ (c.args.n + 9) _ (omega arith)
