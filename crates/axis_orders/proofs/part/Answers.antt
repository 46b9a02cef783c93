use mathlib.Core.Path.{sym, ◌∙◌}
use Rattle.vector.proofs.Axes.{same_axis}
use Rattle.axis_orders.proofs.Sifting.{parted_own, parted_other}
use Rattle.axis_orders.proofs.part.Goals as goal

pub returns-then-eq : goal.returns-then-eq
returns-then-eq c = parted_own _ _ _ _ (sym (same_axis c.args.own c.args.axis) ∙ sym c.eq.ensures ∙ c.if-eq.true)

pub returns : goal.returns
returns c =
    let s = c.sift-kept in
    parted_other _ _ _ c.args.list.now s.new.list s.new.work _ _ (sym (same_axis c.args.own c.args.axis) ∙ sym c.eq.ensures ∙ c.if-eq.false)
    s.ensures s.auto.list c.put_from.ensures
