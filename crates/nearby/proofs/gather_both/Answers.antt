-- `gather_both` meets its contract: whoever is left out is beyond the limit of the one place or of the other. Assumes
-- nothing.
use native.Mathlib.Omega.{arith}
use Rattle.nearby.proofs.Narrowing.{collected_both}
use Rattle.nearby.proofs.gather_both.Goals as goal

pub keep_within-requires : goal.keep_within-requires
keep_within-requires c =
    let r = c.requires.0.linked.ready in
    let g = c.gather_near-found in
    record {
      few = r.few;
      points_long = r.points_long;
      work_long = omega
          (arith, r.work_long, g.auto.w);
      most = g.ensures.most;
      below = g.ensures.below;
    }

pub returns : goal.returns
returns c = collected_both c.gather_near-found.ensures c.keep_within.ensures
