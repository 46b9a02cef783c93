-- `domain::refusal_of_work` meets its contract. Assumes nothing.
use mathlib.Core.Bool.{false}
use mathlib.Core.Path.{◌≡◌}
use Rattle.domain.specs.Refusals.{roomy}
use borrow.Author.Tests.{le-leb, lt-leb}
use Rattle.domain.specs.Refusals.{first_refusal}
use Rattle.domain.proofs.refusal_of_work.Goals as goal
use Rattle.domain.proofs.refusal_of_work.Goals.{then-words-n-via-then-words-n, then-words-n-via-else-words-n+then-floats-n}

pub returns-then-words-n : goal.returns-then-words-n
unfolding roomy first_refusal
returns-then-words-n c =
    let a = c.args in
    let short : roomy a.n a.words a.floats ≡ false = elim c.then-words-n.branch [
      | then-words-n-via-then-words-n w ↦ rw (lt-leb _ _ w.if-words-n.true)
      | then-words-n-via-else-words-n+then-floats-n w ↦ rw (le-leb _ _ w.if-words-n.false, lt-leb _ _ w.if-floats-n.true)
    ] in
    rw (c.plainly.ensures, short)

pub returns : goal.returns
unfolding roomy first_refusal
returns c = rw (le-leb _ _ c.if-words-n.false, le-leb _ _ c.if-floats-n.false)
