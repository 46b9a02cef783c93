-- `plain::acceptance::is_narrow` meets its contract. Assumes nothing.
use Rattle.plain.specs.Inner.Bounds.{fourfold}
use Rattle.plain.proofs.Judged.{holds}
use Rattle.plain.proofs.acceptance.is_narrow.Goals as goal

pub returns-then-x : goal.returns-then-x
unfolding fourfold
returns-then-x c = λ e. record {
  short = holds c.if-z-s.true;
  within = holds c.if-x-w.true;
  long = holds c.if-edge-b.true;
  x_above = holds c.if-x.true;
  area_above = holds e;
}
