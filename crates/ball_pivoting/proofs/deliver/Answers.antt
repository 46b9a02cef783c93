-- Nothing found, more than fits, or the faces. Assumes nothing.
use Rattle.ball_pivoting.proofs.Delivered.{delivers_none, delivers_over, delivers_faces}
use Rattle.ball_pivoting.proofs.deliver.Goals as goal

pub returns-then-count-eq0 : goal.returns-then-count-eq0
returns-then-count-eq0 c =
    λ why f rs ms lent named h. delivers_none why f rs ms lent _ _ named h _ c.refuse.ensures c.if-count-eq0.true

pub returns-then-faces-count : goal.returns-then-faces-count
returns-then-faces-count c =
    λ why f rs ms lent named h. delivers_over why f rs ms lent _ _ named h _ _ c.refuse-then-faces-count.ensures c.clear.ensures
    c.if-count-eq0.false c.if-faces-count.true

pub returns : goal.returns
returns c =
    λ why f rs ms lent named h. delivers_faces why f rs ms lent _ _ named h c.if-count-eq0.false c.if-faces-count.false _ c.accept.ensures
