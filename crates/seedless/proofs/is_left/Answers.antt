-- `is_left` meets its contract: each test that fails is one of the definition's. Assumes nothing.
use mathlib.Core.Path.{sym, ◌∙◌}
use Rattle.seedless.proofs.is_left.Goals as goal

pub returns-then-is_other : goal.returns-then-is_other
returns-then-is_other c = rw (sym c.is_other.ensures ∙ c.if-is_other.true) c.is_unused.ensures

pub returns-else-is_other : goal.returns-else-is_other
returns-else-is_other c = rw (sym c.is_other.ensures ∙ c.if-is_other.false) c.if-is_other.false
