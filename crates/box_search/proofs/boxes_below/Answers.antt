use native.Mathlib.Omega.{arith}
use borrow.Author.Tests.{le-leb, lt-leb}
use Rattle.box_search.specs.Boxes.{boxes_below}
use Rattle.box_search.proofs.boxes_below.Goals as goal

pub returns-then-n-le8 : goal.returns-then-n-le8
unfolding boxes_below
returns-then-n-le8 c = rw (le-leb _ _ c.if-n-le8.true)

pub returns-then-width-n : goal.returns-then-width-n
unfolding boxes_below
returns-then-width-n c = rw (lt-leb _ _ c.if-n-le8.false) (omega (arith, c.if-width-n.true))

pub returns : goal.returns
unfolding boxes_below
returns c = rw (lt-leb _ _ c.if-n-le8.false) (omega (arith, c.if-width-n.false))
