use Rattle.std.proofs.Common.{◌∙◌}
use Rattle.filling.proofs.Fill.{same_pointwise}
use Rattle.filling.proofs.same_front.Goals as goal

pub returns : goal.returns
returns c = c.eq.ensures ∙ same_pointwise _ _
