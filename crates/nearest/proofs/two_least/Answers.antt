use lib.ListN.{get_or}
use Rattle.lists.proofs.Members.{in_at}
use Rattle.nearest.proofs.Settling.{seen_start, seen_next, seen_end}
use Rattle.nearest.proofs.two_least.Goals as goal

pub loop-number-init : goal.loop-number-init
loop-number-init c = seen_start _ _

pub point_at-p-requires : goal.point_at-p-requires
point_at-p-requires c =
    let o = c.args.order.now in c.requires.numbers_of_points
    (get_or o c.loop-number.number-index 0) (in_at o c.loop-number.number-index c.loop-number-test.true)

pub loop-number-preserved : goal.loop-number-preserved
loop-number-preserved c =
    seen_next c.requires.all_finite c.loop-number.invariant
    c.loop-number-test.true c.point_at-p.ensures c.distance_squared-square.ensures
    c.next_least-least.ensures

pub returns : goal.returns
returns c = seen_end _ c.loop-number.invariant c.loop-number-test.false
