-- `is_narrow` meets its contract.
use Rattle.cosines.proofs.is_narrow.Goals as goal

pub returns : goal.returns
returns c = c.passes.ensures
