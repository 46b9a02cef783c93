use borrow.Author.Tests.{lt-ltb, le-ltb}
use Rattle.looks.specs.Inner.Looks.{parent_in}
use Rattle.looks.proofs.parent_of.Goals as goal

pub returns-then-face-origins : goal.returns-then-face-origins
unfolding parent_in
returns-then-face-origins c = rw (lt-ltb _ _ c.if-face-origins.true)

pub returns-else-face-origins : goal.returns-else-face-origins
unfolding parent_in
returns-else-face-origins c = rw (le-ltb _ _ c.if-face-origins.false)
