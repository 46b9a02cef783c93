use Rattle.axis_orders.proofs.Ends.{bounding}
use Rattle.vector.proofs.Axes.{axis_below}
use Rattle.axis_orders.proofs.bound.Goals as goal

pub returns : goal.returns
returns c =
    bounding c.box_of-b.ensures c.put_box.ensures c.longest.ensures
    (axis_below c.longest.result)
