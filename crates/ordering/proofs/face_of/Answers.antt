-- `ordering::face_of` meets its contract: by cases. Assumes nothing.
use Rattle.ordering.proofs.Running.{face_low, face_high}
use mathlib.Core.Path.{sym}
use Rattle.ordering.proofs.face_of.Goals as goal

pub returns-then-root-count : goal.returns-then-root-count
returns-then-root-count c = sym (face_low c.args.count c.args.root c.if-root-count.true)

pub returns-else-root-count : goal.returns-else-root-count
returns-else-root-count c = sym (face_high c.args.count c.args.root c.if-root-count.false)
