-- `radii::nearest::reach_of` meets its contract. Assumes nothing.
use native.Mathlib.Omega.{arith}
use Rattle.sorting.proofs.Percentile.{small}
use Rattle.radii.proofs.nearest.reach_of.Goals as goal

pub int_to_float-result : goal.int_to_float-result
int_to_float-result c = small _ (omega (arith, c.if-range-lt4096.true))
