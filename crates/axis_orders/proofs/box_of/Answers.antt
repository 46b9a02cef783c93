-- `box_of` meets its contract: the ends of the three orders are the corners, coordinate by coordinate. Assumes nothing.
use Rattle.axis_orders.proofs.Ends.{ends_box_is}
use Rattle.axis_orders.proofs.box_of.Goals as goal

pub returns : goal.returns
returns c =
    let corner4 = c.corner-4 in
    let point = c.point-lo in
    let corner3 = c.corner-3 in
    let corner2 = c.corner-2 in
    let corner = c.corner in
    ends_box_is _ _ _ _ corner.ensures corner2.ensures corner3.ensures corner4.ensures c.corner-5.ensures
    c.corner-6.ensures point.ensures c.point-hi.ensures
