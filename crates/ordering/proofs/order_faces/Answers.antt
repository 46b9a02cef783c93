-- `ordering::order_faces` meets its contract: none is placed, then all are, or one does not fit. Assumes nothing.
use Rattle.ordering.proofs.Slices.{start_faces, start_kept, ordered_yes, ordered_no}
use Rattle.std.specs.Prelude.{Option}
use Rattle.ordering.specs.Inner.Ordering.{FacesOrdered}
use lib.ListN.{get_or}
use native.Mathlib.Omega.{arith}
use mathlib.Core.Path.{sym, subst}
use Prim.Native.Nat.{ℕ}
use Rattle.ordering.proofs.order_faces.Goals as goal

pub returns-in_err-found : goal.returns-in_err-found
returns-in_err-found c =
    let p = c.requires in
    let a = c.args in
    let w = c.clear_part in
    let v = c.link_corners in
    let t = c.plant in
    λ fs told. subst (λ (r : Option ℕ). FacesOrdered fs r a.order.now a.order.now) (sym c.from_residual.ensures)
    (ordered_no a.n a.count fs told.many c.place_all.new.words a.order.now
    (c.in_err-found.ensures.finds (λ k. get_or w.new.words k 0) fs told.many told.different
    (start_faces a.n a.count p.1 a.words.now w.new.words v.new.words t.new.words w.ensures.zeros w.ensures.outside v.ensures
    t.ensures fs told)
    (start_kept a.n a.count p.1 a.words.now w.new.words v.new.words t.new.words w.ensures.zeros w.ensures.outside v.ensures
    t.ensures fs told)))

pub returns : goal.returns
returns c =
    let p = c.requires in
    let a = c.args in
    let w = c.clear_part in
    let v = c.link_corners in
    let t = c.plant in
    λ fs told. ordered_yes a.n a.count fs told.many c.place_all.new.words a.order.now c.copy_order.new.order c.in_ok-found.found
    (omega (arith, p.1, p.3, w.auto.words, v.auto.words, t.auto.words, c.place_all.auto.words))
    (c.in_ok-found.ensures.finds (λ k. get_or w.new.words k 0) fs told.many told.different
    (start_faces a.n a.count p.1 a.words.now w.new.words v.new.words t.new.words w.ensures.zeros w.ensures.outside v.ensures
    t.ensures fs told)
    (start_kept a.n a.count p.1 a.words.now w.new.words v.new.words t.new.words w.ensures.zeros w.ensures.outside v.ensures
    t.ensures fs told)) c.copy_order.ensures
