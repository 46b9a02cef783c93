-- `order_checked` meets its contract: each way out is one of the last two checks, or an order. Assumes nothing.
use mathlib.Core.Path.{refl, sym, ◌∙◌}
use Rattle.face_order.proofs.Told.{short_refused, many_refused, copy_fits, between_looks, found_order, found_none}
use Rattle.face_order.proofs.order_checked.Goals as goal

pub returns-then-order-count : goal.returns-then-order-count
returns-then-order-count c =
    short_refused c.args.faces.now c.args.n _
    c.requires c.args.order.now c.if-order-count.true _
    c.refused.ensures

pub returns-then-is_too_many : goal.returns-then-is_too_many
returns-then-is_too_many c =
    many_refused c.args.faces.now
    c.args.n _ c.requires
    c.args.order.now c.if-order-count.false
    (sym c.is_too_many.ensures ∙ c.if-is_too_many.true) _ c.refused-then-is_too_many.ensures

pub copy_numbers-requires : goal.copy_numbers-requires
copy_numbers-requires c =
    copy_fits c.args.faces.now
    c.args.n _ c.requires
    c.args.order.now c.if-order-count.false
    (sym c.is_too_many.ensures ∙ c.if-is_too_many.false)

pub order_faces-requires : goal.order_faces-requires
order_faces-requires c =
    between_looks c.args.faces.now
    c.args.n _
    c.requires
    c.args.order.now
    c.if-order-count.false
    (sym c.is_too_many.ensures
    ∙ c.if-is_too_many.false) c.copy_numbers.new.words
    c.copy_numbers.auto.words c.copy_numbers.ensures

pub returns-in-Some : goal.returns-in-Some
returns-in-Some c =
    found_order c.args.faces.now c.args.n _ c.requires c.args.order.now c.if-order-count.false (sym c.is_too_many.ensures ∙ c.if-is_too_many.false)
    c.copy_numbers.new.words c.copy_numbers.auto.words c.copy_numbers.ensures _ _ c.in-Some.ensures _ refl

pub returns-in-None : goal.returns-in-None
returns-in-None c =
    found_none c.args.faces.now c.args.n _ c.requires c.args.order.now c.if-order-count.false (sym c.is_too_many.ensures ∙ c.if-is_too_many.false)
    c.copy_numbers.new.words c.copy_numbers.auto.words c.copy_numbers.ensures _ c.in-None.ensures _ c.refused-in-None.ensures
