-- `limits_of` meets its contract. Assumes nothing.
use Rattle.filters.proofs.limits_of.Goals as goal

pub returns : goal.returns
returns c =
    let d = c in
    let l = d.least_area in
    record {
      least = l.result;
      leasts = l.ensures;
      smalls = d.area_limit-small.ensures;
      larges = d.large_limit-large.ensures;
      fars = d.square_limit-far.ensures;
      aspect = d.aspect_limit.result;
      aspects = d.aspect_limit.ensures;
      thins = d.thin_limit-thin.ensures;
      filters = c.sliver_filter_of-slivers.ensures;
    }
