-- `narrow_limit` meets its contract.
use mathlib.Core.Path.{sym, subst}
use lib.Dec.{T}
use Rattle.cosines.proofs.Limit.{limit_is, no_limit}
use Rattle.cosines.proofs.narrow_limit.Goals as goal

pub returns-then-cosine-2 : goal.returns-then-cosine-2
returns-then-cosine-2 c =
    let s = c in
    limit_is s.args.cosine (subst T (sym s.well_formed.0.1) tt) (rw c.if-cosine.true tt) (rw c.if-cosine-2.true tt)

pub returns-else-cosine-2 : goal.returns-else-cosine-2
returns-else-cosine-2 c = no_limit _

pub returns-else-cosine : goal.returns-else-cosine
returns-else-cosine c = no_limit _
