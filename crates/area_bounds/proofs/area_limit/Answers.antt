-- `area_limit` meets its contract: its guess is tested.
use lib.Ieee.{binary32}
use lib.Ieee.Fits.{mul-fits}
use Rattle.area_bounds.proofs.AreaBound.{limit_is, no_limit}
use Rattle.area_bounds.proofs.area_limit.Goals as goal

pub returns-then-sqrt-least : goal.returns-then-sqrt-least
returns-then-sqrt-least c = limit_is _ _ (mul-fits binary32 _ _) (rw (← c.sqrt.ensures, c.if-sqrt-least.true) tt)

pub returns : goal.returns
returns c = no_limit _
