-- `placing::place` meets its contract: the laws of a face that fits. Assumes nothing.
use mathlib.Core.Path.{sym, ◌∙◌}
use native.Mathlib.Omega.{arith}
use Rattle.placing.proofs.Keeping.{place_unfit, place_done}
use Rattle.placing.proofs.place.Goals as goal

pub returns-then-not-may_place : goal.returns-then-not-may_place
returns-then-not-may_place c =
    let a = c.args in
    place_unfit a.n a.count a.i c.requires.1 c.requires.2 a.words.now c.requires.4 a.shared
    (sym c.may_place.ensures ∙ c.if-not-may_place.true)

pub returns : goal.returns
returns c =
    let a = c.args in
    let r = c.renew in
    let m = c.reach in
    let o = c.open_sides in
    place_done a.n a.count a.i c.requires.1 c.requires.2 a.words.now c.requires.4 a.shared r.new.words o.new.words
    o.result (sym c.may_place.ensures ∙ c.if-not-may_place.false) r.ensures (omega (arith, c.requires.3, r.auto.words))
    m.new.words m.ensures o.ensures
