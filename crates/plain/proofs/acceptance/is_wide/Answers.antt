-- `plain::acceptance::is_wide` meets its contract. Assumes nothing.
use Rattle.plain.specs.Inner.Bounds.{fourfold}
use Rattle.plain.proofs.Judged.{holds}
use Rattle.plain.proofs.acceptance.is_wide.Goals as goal

pub returns-then-e-2 : goal.returns-then-e-2
unfolding fourfold
returns-then-e-2 c =
    let if7 = c.if-x-2 in
    let if6 = c.if-e in
    let if5 = c.if-d in
    let if4 = c.if-x in
    let if3 = c.if-b-edge in
    let if2 = c.if-e-d in
    let if1 = c.if-s-z in
    λ e. record {
      long = holds if1.true;
      out = holds if2.true;
      short = holds if3.true;
      x_above = holds if4.true;
      area_above = holds if5.true;
      beyond_above = holds if6.true;
      x_fits = holds if7.true;
      area_fits = holds c.if-d-2.true;
      edge_fits = holds c.if-edge.true;
      beyond_fits = holds c.if-e-2.true;
      apart = holds e;
    }
