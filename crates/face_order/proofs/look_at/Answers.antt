-- `look_at` meets its contract: what was seen of the first faces is carried on. Assumes nothing.
use mathlib.Core.Path.{refl}
use Rattle.face_order.proofs.Seen.{looked_start, looked_step, looked_end}
use Rattle.face_order.proofs.look_at.Goals as goal

pub loop-i-init : goal.loop-i-init
loop-i-init c = looked_start c.args.n c.args.faces.now

pub loop-i-preserved : goal.loop-i-preserved
loop-i-preserved c =
    looked_step c.loop-i.invariant c.loop-i-test.true
    c.is_outside-outside.ensures c.is_twice-twice.ensures

pub returns : goal.returns
returns c = looked_end c.loop-i.invariant c.loop-i-test.false refl
