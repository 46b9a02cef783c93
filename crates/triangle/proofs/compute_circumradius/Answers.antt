-- `compute_circumradius` meets its contract.
use Rattle.triangle.specs.Quality.{circumradius}
use Rattle.numbers.proofs.Compare.{infinite}
use Rattle.triangle.proofs.compute_circumradius.Goals as goal

pub returns-then-area : goal.returns-then-area
unfolding circumradius
returns-then-area c = rw (← c.area_of-area.ensures, c.if-area.true) infinite

pub returns : goal.returns
unfolding circumradius
returns c = rw (← c.area_of-area.ensures, c.if-area.false) (cc)
