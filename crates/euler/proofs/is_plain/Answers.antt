-- `is_plain` meets its contract.
use Rattle.euler.proofs.Scores.{plain_low}
use Rattle.euler.proofs.is_plain.Goals as goal

pub returns : goal.returns
returns c = λ h. plain_low _ _ _ (rw (← c.are_plain.ensures, h) tt)
