-- `tally::checks::is_enterable` meets its contract. Assumes nothing.
use borrow.Author.Tests.{le-leb, lt-leb}
use Rattle.tally.specs.Checks.{enterable}
use Rattle.tally.proofs.checks.is_enterable.Goals as goal

pub returns-then-patch : goal.returns-then-patch
unfolding enterable
returns-then-patch c =
    rw (
      le-leb _ _ c.if-patch-ge1.true,
      le-leb _ _ c.if-patch-le-MAX_SCANNED.true,
      le-leb _ _
          c.if-patch.true,
    )

pub returns-else-patch : goal.returns-else-patch
unfolding enterable
returns-else-patch c = rw (le-leb _ _ c.if-patch-ge1.true, le-leb _ _ c.if-patch-le-MAX_SCANNED.true, lt-leb _ _ c.if-patch.false)

pub returns-else-patch-le-MAX_SCANNED : goal.returns-else-patch-le-MAX_SCANNED
unfolding enterable
returns-else-patch-le-MAX_SCANNED c = rw (le-leb _ _ c.if-patch-ge1.true, lt-leb _ _ c.if-patch-le-MAX_SCANNED.false)

pub returns-else-patch-ge1 : goal.returns-else-patch-ge1
unfolding enterable
returns-else-patch-ge1 c = rw (lt-leb _ _ c.if-patch-ge1.false)
