use native.Mathlib.Omega.{arith}
use Rattle.sorting.proofs.Percentile.{small}
use Rattle.estimate.proofs.nearest.guess_spacing.Goals as goal

pub int_to_float-n : goal.int_to_float-n
int_to_float-n c = small _ (omega arith)
