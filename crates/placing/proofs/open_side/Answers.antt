-- `placing::open_side` meets its contract: a new side's faces are met from the point that is new. Assumes nothing.
use mathlib.Core.Path.{refl}
use mathlib.Core.Bool.{not}
use lib.Dec.{leb}
use Rattle.placing.specs.Inner.Placing.{opens}
use Rattle.placing.proofs.Sides.{or_right}
use Rattle.placing.proofs.Keeping.{open_none, open_met, open_flip}
use Rattle.placing.proofs.open_side.Goals as goal

pub returns-then-not-uy : goal.returns-then-not-uy
returns-then-not-uy c =
    let a = c.args in
    let o = c.offer_at-then-not-uy in
    open_flip a.n a.count a.x a.y a.words.now o.new.words (opens a.ux a.uy) (leb o.result 2)
    (open_met a.n a.count a.y a.x a.words.now o.new.words o.result (opens a.ux a.uy)
    (or_right (not a.ux) (not a.uy) (rw c.if-not-uy.true refl)) o.ensures)

pub returns : goal.returns
returns c =
    let a = c.args in
    open_none a.n a.count a.x a.y a.words.now (opens a.ux a.uy) (rw (c.if-not-ux.false, c.if-not-uy.false) refl)
