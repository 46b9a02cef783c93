use Rattle.std.proofs.Common.{arith}
use Rattle.std.proofs.lemmas.Grind.{common_steps}
use Rattle.axis_orders.specs.Inner.Parted.{order_along}
use Rattle.axis_orders.proofs.put_along.Goals.{in-X, in-Y, in-Z}
use Rattle.axis_orders.proofs.put_along.Goals as goal

pub returns : goal.returns
unfolding order_along
returns c = elim c.match-axis.branch [
  | in-X w ↦ grind (arith, common_steps)
  | in-Y w ↦ grind (arith, common_steps)
  | in-Z w ↦ grind (arith, common_steps)
]
