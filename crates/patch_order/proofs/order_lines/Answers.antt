-- `patch_order::order_lines` meets its contract: each way out is one of the last two checks, or an order. Assumes
-- nothing.
use mathlib.Core.Path.{refl, sym, ap, ◌∙◌}
use native.Mathlib.Omega.{arith}
use lib.ListN.{length}
use Rattle.patch_order.specs.Inner.Ready.{too_many}
use Rattle.patch_order.proofs.Each.{too_many_lem}
use Rattle.patch_order.proofs.Last.{last_short, last_none, judged_refused}
use Rattle.patch_order.proofs.Stands.{readable, between_looks, found_order, found_none}
use Rattle.patch_order.proofs.order_lines.Goals as goal

pub returns-then-order-count : goal.returns-then-order-count
returns-then-order-count c =
    let p = c.requires in
    let m = p.many in
    let h = c.if-order-count.true in
    judged_refused _ _ p.faces p.lines 13 refl (last_short (length c.args.order.now) p.faces (omega arith)) _ c.refused.ensures

pub returns-then-is_too_many : goal.returns-then-is_too_many
returns-then-is_too_many c =
    let p = c.requires in
    let m = p.many in
    let h = c.if-order-count.false in
    let e = ap (too_many c.args.n) m ∙ sym c.is_too_many.ensures ∙ c.if-is_too_many.true in
    judged_refused _ _ p.faces p.lines 23 refl
    (last_none (length c.args.order.now) p.faces (omega arith) (too_many_lem p.faces p.different _ p.inside e)) _ c.refused-then-is_too_many.ensures

pub store_faces-requires : goal.store_faces-requires
store_faces-requires c =
    readable _ _ _ c.args.words.now c.requires (sym c.is_too_many.ensures ∙ c.if-is_too_many.false)

pub order_faces-requires : goal.order_faces-requires
order_faces-requires c =
    let store-faces = c.store_faces in
    let if1 = c.if-order-count in
    between_looks _ _ _ c.args.words.now c.requires (sym c.is_too_many.ensures ∙ c.if-is_too_many.false) _ store-faces.ensures c.args.order.now if1.false

pub returns-in-Some : goal.returns-in-Some
returns-in-Some c =
    found_order _ _ _ c.args.words.now c.requires (sym c.is_too_many.ensures ∙ c.if-is_too_many.false) _ c.store_faces.ensures c.args.order.now
    c.if-order-count.false _ _ c.in-Some.ensures _ refl

pub returns-in-None : goal.returns-in-None
returns-in-None c =
    found_none _ _ _ c.args.words.now c.requires (sym c.is_too_many.ensures ∙ c.if-is_too_many.false) _ c.store_faces.ensures c.args.order.now
    c.if-order-count.false _ c.in-None.ensures _ c.refused-in-None.ensures
