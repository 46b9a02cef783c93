-- `patch_order::refusal_of_faces` meets its contract: each way out is the first check that fails. Assumes nothing.
use borrow.Author.Tests.{le-leb, lt-leb}
use Rattle.domain.specs.Refusals.{first_refusal}
use Rattle.patch_order.proofs.refusal_of_faces.Goals as goal

pub returns-then-n-gt4096 : goal.returns-then-n-gt4096
unfolding first_refusal
returns-then-n-gt4096 c = let a = c.args in rw (lt-leb a.n 4096 c.if-n-gt4096.true)

pub returns-then-outside : goal.returns-then-outside
unfolding first_refusal
returns-then-outside c = let a = c.args in rw (le-leb a.n 4096 c.if-n-gt4096.false, c.if-outside.true)

pub returns-then-twice : goal.returns-then-twice
unfolding first_refusal
returns-then-twice c = let a = c.args in rw (le-leb a.n 4096 c.if-n-gt4096.false, c.if-outside.false, c.if-twice.true)

pub returns : goal.returns
unfolding first_refusal
returns c =
    let a = c.args in
    rw (le-leb a.n 4096 c.if-n-gt4096.false, c.if-outside.false, c.if-twice.false) c.refusal_of_work.ensures
