-- `thin_limit` meets its contract.
use mathlib.Core.Path.{sym, subst}
use lib.Dec.{T}
use Rattle.thin.proofs.Thin.{limit_is, no_limit}
use Rattle.thin.proofs.thin_limit.Goals as goal

pub returns-then-is_between : goal.returns-then-is_between
returns-then-is_between c =
    let s = c in
    limit_is s.args.aspect (subst T (sym s.well_formed.0.1) tt) (rw (← c.is_between.ensures, c.if-is_between.true) tt)

pub returns : goal.returns
returns c = no_limit _
