-- `are_low` meets its contract. Assumes nothing.
use mathlib.Core.Path.{sym, subst}
use lib.Dec.{T}
use Rattle.box_filters.proofs.Low.{low_by}
use Rattle.box_filters.proofs.are_low.Goals as goal

pub returns-then-not-threshold : goal.returns-then-not-threshold
returns-then-not-threshold c = λ h. absurd (subst T (sym h) tt)

pub returns : goal.returns
returns c =
    let r = c in
    let g = r in
    let s = g in
    λ h.
    low_by _ s.args.area s.args.e g.least_angle-angle.ensures r.min.ensures r.min-2.ensures r.sqrt-shortest.ensures
    c.sqrt-a.ensures c.sqrt-b.ensures c.sqrt-c.ensures
    c.sqrt.ensures (subst T (sym s.well_formed.1.1.0.1) tt) (c.is_low_from.ensures h)
