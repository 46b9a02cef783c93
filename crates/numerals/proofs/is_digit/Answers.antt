-- `numerals::is_digit` meets its contract: the test is that of `is_digit`. Assumes nothing.
use mathlib.Core.Path.{◌∙◌}
use borrow.Author.Tests.{le-ltb}
use Rattle.numerals.proofs.Bytes.{digit_here, digit_past}
use Rattle.numerals.proofs.is_digit.Goals as goal

pub returns-then-at-s : goal.returns-then-at-s
returns-then-at-s c = c.is_ascii_digit.ensures.value ∙ digit_here c.args.s.now c.args.at c.if-at-s.true

pub returns-else-at-s : goal.returns-else-at-s
returns-else-at-s c = le-ltb _ _ c.if-at-s.false ∙ digit_past c.args.s.now c.args.at c.if-at-s.false
