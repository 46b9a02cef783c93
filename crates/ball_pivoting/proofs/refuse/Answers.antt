-- A refusal has no counts and no radii. Assumes nothing.
use mathlib.Core.Path.{refl}
use Rattle.ball_pivoting.specs.Reconstruct.{slots, refused}
use Rattle.ball_pivoting.proofs.refuse.Goals as goal

pub returns : goal.returns
unfolding slots refused
returns c = refl
