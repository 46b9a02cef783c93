use lib.ListN.{get_or}
use mathlib.Core.Path.{ap}
use Rattle.lists.proofs.Members.{in_at}
use Rattle.vector.specs.Vector.{distance}
use Rattle.vector.specs.declared.Point3f.{Point3f}
use Rattle.nearest.proofs.Scanning.{left_start, left_step, left_end}
use Rattle.nearest.proofs.scan.Goals as goal

pub loop-number-init : goal.loop-number-init
loop-number-init c = left_start _ _ _ c.requires.best_limited

pub point_at-p-requires : goal.point_at-p-requires
point_at-p-requires c =
    let o = c.args.order.now in c.requires.numbers_of_points
    (get_or o c.loop-number.number-index 0) (in_at o c.loop-number.number-index c.loop-number-test.true)

pub loop-number-preserved : goal.loop-number-preserved
loop-number-preserved c =
    left_step _ c.loop-number.invariant c.loop-number-test.true
    (ap (λ (p : Point3f). distance p c.args.spot) c.point_at-p.ensures)
    c.closer-found.ensures

pub returns : goal.returns
returns c = left_end _ c.loop-number.invariant c.loop-number-test.false
