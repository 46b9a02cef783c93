-- `low_aspect` meets its contract.
use Rattle.six_orders.proofs.low_aspect.Goals as goal

pub aspect_bound-requires : goal.aspect_bound-requires
aspect_bound-requires c = c.are_positive.ensures c.if-not-are_positive.false

pub returns-then-aspect : goal.returns-then-aspect
returns-then-aspect c = record {
  above = rw c.if-not-threshold.false tt;
  edges = c.are_positive.ensures c.if-not-are_positive.false;
  from = c.in_ok-aspect.ensures;
  small = rw c.if-aspect.true tt;
}
