-- `bounds::square_limit` meets its contract. Assumes nothing.
use mathlib.Core.Path.{sym, subst}
use lib.Dec.{T}
use lib.Ieee.{Float, binary32, lt}
use lib.Ieee.Fits.{add-fits}
use Rattle.bounds.proofs.Beyond.{limit_tested, limit_none}
use Rattle.bounds.proofs.square_limit.Goals as goal

pub returns-then-sqrt-r : goal.returns-then-sqrt-r
returns-then-sqrt-r c =
    let s = c.before.before.before in
    limit_tested s.args.r _ (add-fits binary32 _ _) (subst T (sym c.if-t.true) tt)
    (subst (λ (v : Float). T (lt s.args.r v)) c.sqrt.ensures (subst T (sym c.if-sqrt-r.true) tt))

pub returns : goal.returns
returns c = limit_none c.args.r
