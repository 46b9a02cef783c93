-- `cloud_lines::reader::put_triple` meets its contract. Assumes nothing.
use native.Mathlib.Omega.{arith}
use lib.ListN.{length-set}
use Rattle.cloud_lines.proofs.Placing.{placed_short, placed_fits}
use Rattle.cloud_lines.proofs.reader.put_triple.Goals as goal

pub returns-then-d-k : goal.returns-then-d-k
returns-then-d-k c = search placed_short

pub bounds-d-at-2 : goal.bounds-d-at-2
bounds-d-at-2 c = simp length-set (omega arith)

pub bounds-d-at-3 : goal.bounds-d-at-3
bounds-d-at-3 c = simp length-set (omega arith)

pub returns : goal.returns
returns c = search placed_fits
