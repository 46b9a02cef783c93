-- `numerals::byte_is` meets its contract: inside the bytes the byte decides, and past them nothing does. Assumes
-- nothing.
use mathlib.Core.Path.{◌∙◌}
use borrow.Author.Tests.{le-ltb}
use Rattle.numerals.proofs.Bytes.{starts_here, starts_past}
use Rattle.numerals.proofs.byte_is.Goals as goal

pub returns-then-at-s : goal.returns-then-at-s
returns-then-at-s c = starts_here _ _ _ c.if-at-s.true

pub returns-else-at-s : goal.returns-else-at-s
returns-else-at-s c = le-ltb _ _ c.if-at-s.false ∙ starts_past _ _ _ c.if-at-s.false
