-- `placing::may_place` meets its contract: by cases. Assumes nothing.
use Rattle.placing.proofs.Keeping.{fitting_none, fitting_shared, fitting_apart}
use Rattle.placing.proofs.may_place.Goals as goal

pub returns-then-reached-eq0 : goal.returns-then-reached-eq0
returns-then-reached-eq0 c = fitting_none _ _ _ c.args.shared _ _ _ c.from.ensures c.from-2.ensures c.from-3.ensures c.if-reached-eq0.true

pub returns-then-shared : goal.returns-then-shared
returns-then-shared c =
    fitting_shared _ _ _ c.args.shared _ _ _ c.from.ensures c.from-2.ensures c.from-3.ensures c.if-reached-eq0.false c.if-shared.true

pub returns-else-shared : goal.returns-else-shared
returns-else-shared c =
    fitting_apart _ _ _ c.args.shared _ _ _ c.from.ensures c.from-2.ensures c.from-3.ensures c.if-reached-eq0.false c.if-shared.false
