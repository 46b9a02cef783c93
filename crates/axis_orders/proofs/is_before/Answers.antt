use Rattle.axis_orders.specs.Inner.Parted.{is_before_pivot}
use Rattle.axis_orders.proofs.is_before.Goals as goal

pub returns-then-x-at : goal.returns-then-x-at
unfolding is_before_pivot
returns-then-x-at c = rw (← c.coordinate-x.ensures, c.if-x-at.true)

pub returns : goal.returns
unfolding is_before_pivot
returns c = rw (← c.coordinate-x.ensures, c.if-x-at.false)
