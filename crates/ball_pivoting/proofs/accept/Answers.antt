-- The account as the public struct has it. Assumes nothing.
use mathlib.Core.Path.{refl}
use Rattle.ball_pivoting.specs.Inner.Parts.{accepted_by}
use Rattle.ball_pivoting.proofs.accept.Goals as goal

pub returns : goal.returns
unfolding accepted_by
returns c = refl
