-- `radii::nearest::wider` meets its contract. Assumes nothing.
use native.Mathlib.Omega.{arith}
use Rattle.sorting.proofs.Percentile.{small}
use Rattle.neighbor_squares.proofs.wider.Goals as goal

pub int_to_float-result : goal.int_to_float-result
int_to_float-result c = small _ (omega arith)
