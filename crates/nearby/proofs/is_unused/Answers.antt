-- `is_unused` meets its contract: word k of the region of used points. Assumes nothing.
use lib.Seq.{get_or-take, get_or-drop}
use Rattle.nearby.proofs.is_unused.Goals as goal

pub returns : goal.returns
returns c = let h = c.requires.2 in rw (get_or-take, get_or-drop)
