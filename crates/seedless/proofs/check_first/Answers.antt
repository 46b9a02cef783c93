-- `check_first` meets its contract: of the unused points that are left those that are not looked at are too far away.
-- Assumes nothing.
use Rattle.seedless.proofs.Listed.{around_ready, around_seedless, around_kept}
use Rattle.seedless.proofs.check_first.Goals as goal

pub search_found-requires : goal.search_found-requires
search_found-requires c =
    let n = c.list_around-around in
    around_ready {p = c.args.p} c.requires.0 c.requires.1 c.requires.2 c.requires.3 n.ensures n.auto.w

pub returns-in-Some-search_found : goal.returns-in-Some-search_found
returns-in-Some-search_found c =
    let n = c.list_around-around in
    let r = c.requires in (
      around_seedless {p = c.args.p} r.0 r.1 r.2 r.3 n.ensures n.auto.w c.args.lo c.in-Some-search_found.ensures.0,
      around_kept {p = c.args.p} r.0 r.1 r.2 r.3 n.ensures n.auto.w c.search_found.ensures.1,
    )
