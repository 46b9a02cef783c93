use mathlib.Core.Path.{sym, subst}
use lib.Dec.{T}
use Rattle.nearest.proofs.Margin.{raised_limit, root_limit}
use Rattle.nearest.proofs.limit_of.Goals as goal

pub returns-then-square-2 : goal.returns-then-square-2
returns-then-square-2 c =
    raised_limit c.args.square c.requires (subst T (sym c.if-square.true) tt)
    (subst T (sym c.if-square-2.true) tt) c.greater.ensures

pub returns : goal.returns
returns c = root_limit c.args.square _ c.sqrt.ensures c.square_limit.ensures
