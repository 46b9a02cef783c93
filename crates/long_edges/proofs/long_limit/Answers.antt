-- `long_limit` meets its contract. Assumes nothing.
use mathlib.Core.Path.{sym, subst}
use lib.Dec.{T}
use Rattle.numbers.proofs.RootSpecial.{no_number}
use Rattle.long_edges.proofs.Limit.{limit_is, no_limit}
use Rattle.long_edges.proofs.long_limit.Goals as goal

pub returns-then-is_between : goal.returns-then-is_between
returns-then-is_between c =
    let s = c in
    limit_is s.args.edge (subst T (sym s.well_formed.0.1) tt) (rw (← c.is_between.ensures, c.if-is_between.true) tt)

pub returns : goal.returns
returns c = rw no_number (no_limit _)
