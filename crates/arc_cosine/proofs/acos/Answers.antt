-- `acos` meets its contract, case by case.
use mathlib.Core.Path.{sym, subst}
use lib.Dec.{T}
use lib.Ieee.Compare.{differs_from_itself}
use Rattle.numbers.specs.Acos.{acos}
use Rattle.numbers.proofs.Compare.{is_nan_lem}
use Rattle.arc_cosine.proofs.acos.Goals as goal

pub returns-then-v : goal.returns-then-v
unfolding acos
returns-then-v c = rw (is_nan_lem, c.if-v.true) (differs_from_itself c.args.v (subst T (sym c.if-v.true) tt))

pub returns-then-v-2 : goal.returns-then-v-2
unfolding acos
returns-then-v-2 c = rw (is_nan_lem, c.if-v.false, c.if-v-2.true)

pub returns-then-v-3 : goal.returns-then-v-3
unfolding acos
returns-then-v-3 c = rw (is_nan_lem, c.if-v.false, c.if-v-2.false, c.if-v-3.true)

pub returns : goal.returns
unfolding acos
returns c = rw (is_nan_lem, c.if-v.false, c.if-v-2.false, c.if-v-3.false) c.acos_inside.ensures
