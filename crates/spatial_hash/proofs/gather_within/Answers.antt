-- `gather_within` meets its contract: whoever lies outside the bounds is beyond the limit, and so is whoever is left
-- out then. Assumes nothing.
use native.Mathlib.Omega.{arith}
use Rattle.spatial_hash.proofs.Nearby.{sifted_near}
use Rattle.spatial_hash.proofs.gather_within.Goals as goal

pub keep_within-requires : goal.keep_within-requires
keep_within-requires c =
    let r = c.requires.0.ready in
    let g = c.gather-found in
    record {
      few = r.few;
      points_long = r.points_long;
      work_long = omega
          (arith, r.work_long, g.auto.w);
      most = g.ensures.most;
      below = g.ensures.gathers.below;
    }

pub returns : goal.returns
returns c =
    let gather = c.gather-found in
    let covering = c.covering-bounds in
    sifted_near c.requires.0.ready.numbers covering.ensures gather.ensures c.keep_within.ensures
