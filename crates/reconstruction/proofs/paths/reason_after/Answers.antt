-- The reason, where no face was laid. Assumes nothing.
use mathlib.Core.Path.{ap, ◌∙◌}
use native.Mathlib.Omega.{arith}
use Rattle.ball_pivoting.specs.Reconstruct.{reason_by}
use Rattle.reconstruction.proofs.paths.reason_after.Goals as goal

pub returns-then-laid-gt0 : goal.returns-then-laid-gt0
returns-then-laid-gt0 c = λ h. absurd (omega (arith, c.if-laid-gt0.true))

pub is_any_judged-any-requires : goal.is_any_judged-any-requires
is_any_judged-any-requires c = c.requires (omega (arith, c.if-laid-gt0.false))

pub returns : goal.returns
returns c =
    λ h. c.reason_by.ensures ∙ ap (reason_by c.args.scene.n) c.is_any_judged-any.ensures
