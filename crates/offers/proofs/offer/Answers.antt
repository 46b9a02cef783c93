-- `offers::offer` meets its contract: a face that was offered or placed keeps its value. Assumes nothing.
use Rattle.minima.specs.Inner.Minima.{leaf}
use Rattle.regions.specs.Inner.Ordering.{tree_at}
use mathlib.Core.Bool.{true}
use Rattle.offers.proofs.Walk.{offered_kept, offer_none, offer_renewed}
use Rattle.offers.proofs.offer.Goals as goal

pub returns-then-value-count : goal.returns-then-value-count
returns-then-value-count c =
    let a = c.args in
    offer_renewed a.n a.count a.g a.words.now c.renew.new.words c.if-value-count.true c.renew.ensures

pub returns-else-value-count : goal.returns-else-value-count
returns-else-value-count c =
    let a = c.args in
    offer_none a.n a.count a.g a.words.now true
    (offered_kept a.count a.g (leaf (tree_at a.n) a.count a.words.now a.g) c.if-value-count.false)
