-- `is_out_of_reach` meets its contract.
use mathlib.Core.Path.{refl}
use Rattle.euler.specs.Inner.OutOfReach.{is_out_of_reach}
use Rattle.euler.proofs.is_out_of_reach.Goals as goal

pub returns : goal.returns
unfolding is_out_of_reach
returns c = refl
