-- `verdict::numbered::numbered` meets its contract. Assumes nothing.
use mathlib.Core.Path.{sym, ap, ◌∙◌}
use Rattle.verdict.specs.Numbered.{verdict_numbers}
use Rattle.verdict.proofs.numbered.numbered.Goals as goal

pub returns-in-Ok : goal.returns-in-Ok
returns-in-Ok c = c.kind_of.ensures ∙ ap verdict_numbers (sym c.in-Ok.is)

pub returns-in-Err : goal.returns-in-Err
unfolding verdict_numbers
returns-in-Err c = rw c.in-Err.is
