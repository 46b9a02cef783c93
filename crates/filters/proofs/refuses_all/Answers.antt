-- `refuses_all` meets its contract. Assumes nothing.
use mathlib.Core.Path.{sym, subst}
use lib.Dec.{T}
use Rattle.numbers.proofs.Compare.{infinite}
use Rattle.filters.proofs.refuses_all.Goals as goal

pub returns-then-not-radius : goal.returns-then-not-radius
returns-then-not-radius c = λ h. absurd (subst T (sym h) tt)

pub returns : goal.returns
returns c =
    let a = c.args in
    λ h. record {
      bounded = rw (← infinite, c.if-not-radius.false) tt;
      long = c.is_too_long.ensures h;
    }
