use mathlib.Core.Path.{refl}
use lib.Ieee.{of_bits, div}
use Rattle.estimate.proofs.nearest.infinity.Goals as goal

pub returns : goal.returns
unfolding of_bits div
returns c = refl
