-- A store at an entry that is not 1 makes one more; elsewhere there is none to make. Assumes nothing.
use mathlib.Core.Path.{refl}
use Rattle.coverage.proofs.Marks.{set_new}
use Rattle.coverage.proofs.mark_point.Goals as goal

pub returns-then-reached-point-ne1 : goal.returns-then-reached-point-ne1
returns-then-reached-point-ne1 c = (refl, set_new c.args.reached.now c.args.point c.if-point-reached.true c.if-reached-point-ne1.true)
