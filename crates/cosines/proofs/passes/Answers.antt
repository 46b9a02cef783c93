-- `passes` meets its contract: what passes the test has a cosine that is not below the bound.
use mathlib.Core.Path.{sym, ◌∙◌, subst}
use lib.Dec.{T}
use Rattle.cosines.proofs.Narrow.{narrow_is}
use Rattle.cosines.proofs.passes.Goals as goal

pub returns-then-is_short : goal.returns-then-is_short
returns-then-is_short c =
    let limit = c in
    let short = limit in
    let plain = short in
    let s = plain in
    let a = s.args in
    λ h.
    narrow_is a.al a.ah a.cl a.ch a.bl a.bh a.cross a.limit (subst T (sym s.well_formed.0.1) tt) (subst T (sym s.well_formed.1.1.0.1) tt)
    (rw (← plain.are_plain.ensures, short.if-are_plain.true) tt) (rw (← short.is_short.ensures, limit.if-is_short.true) tt)
    (rw (← limit.limit_at.ensures, ← c.is_small.ensures, h) tt)

pub returns-else-is_short : goal.returns-else-is_short
returns-else-is_short c = λ h. absurd (subst T (sym h ∙ c.if-is_short.false) tt)

pub returns-else-are_plain : goal.returns-else-are_plain
returns-else-are_plain c = λ h. absurd (subst T (sym h ∙ c.if-are_plain.false) tt)
