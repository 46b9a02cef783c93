-- `are_long` meets its contract. Assumes nothing.
use mathlib.Core.Path.{sym, subst}
use lib.Dec.{T}
use Rattle.filters.proofs.are_long.Goals as goal

pub returns-then-not-is_long : goal.returns-then-not-is_long
returns-then-not-is_long c = λ h. absurd (subst T (sym h) tt)

pub returns-then-not-is_long-2 : goal.returns-then-not-is_long-2
returns-then-not-is_long-2 c = λ h. absurd (subst T (sym h) tt)

pub returns : goal.returns
returns c =
    let x = c.is_long in
    let y = c.is_long-2 in
    λ h. (
      x.ensures (c.if-not-is_long.false),
      y.ensures
          (c.if-not-is_long-2.false),
      c.is_long-3.ensures h,
    )
