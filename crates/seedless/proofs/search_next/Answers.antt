-- `search_next` meets its contract. Assumes nothing.
use Rattle.nearby.proofs.Keeping.{held_kept, hashed_search}
use Rattle.seedless.proofs.search_next.Goals as goal

pub raise_budget-rest-requires : goal.raise_budget-rest-requires
raise_budget-rest-requires c =
    let p = c.search_unused in
    let v = p.new.w in
    (held_kept v c.requires.0 p.auto.w, hashed_search {s = c.args.p.scene} v c.requires.1 p.auto.w p.ensures.1, c.requires.2)
