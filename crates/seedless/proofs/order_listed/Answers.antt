-- `order_listed` meets its contract. Assumes nothing.
use Rattle.seedless.proofs.Reordering.{reordered}
use Rattle.seedless.proofs.order_listed.Goals as goal

pub returns : goal.returns
returns c =
    let o = c.order in
    let g = c.requires in
    reordered g.0.work_long g.1 o.new.list o.ensures
