-- `axis::products` meets its contract. Assumes nothing.
use Rattle.intervals.proofs.Ends.{products_held}
use Rattle.intervals.proofs.axis.products.Goals as goal

pub returns : goal.returns
returns c =
    let o = c in
    let s = o in
    products_held s.args.a s.args.b s.args.c s.args.d o.lesser.ensures o.lesser-2.ensures o.lesser-least.ensures
    c.greater.ensures c.greater-2.ensures c.greater-most.ensures
