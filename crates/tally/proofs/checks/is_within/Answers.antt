-- `is_within` meets its contract: each conjunct is the definition's, and no product overflows, since the tally has at
-- most the largest number of patches where it is worked out. Assumes nothing.
use borrow.Author.Tests.{le-leb, lt-leb}
use Rattle.tally.specs.Checks.{tally_within}
use Rattle.tally.proofs.checks.is_within.Goals as goal

pub returns-then-tally-5 : goal.returns-then-tally-5
unfolding tally_within
returns-then-tally-5 c =
    let if4 = c.if-tally-3 in
    let if3 = c.if-tally-2 in
    let if2 = c.if-tally in
    let if1 = c.if-tally-le-MAX_PATCHES in
    rw (
      le-leb _ _ if1.true,
      le-leb _ _ if2.true,
      le-leb _ _ if3.true,
      le-leb _ _ if4.true,
      le-leb _ _ c.if-tally-4.true,
      le-leb _ _ c.if-tally-5.true,
    )

pub returns-else-tally-5 : goal.returns-else-tally-5
unfolding tally_within
returns-else-tally-5 c =
    let if4 = c.if-tally-3 in
    let if3 = c.if-tally-2 in
    let if2 = c.if-tally in
    let if1 = c.if-tally-le-MAX_PATCHES in
    rw (
      le-leb _ _ if1.true,
      le-leb _ _ if2.true,
      le-leb _ _ if3.true,
      le-leb _ _ if4.true,
      le-leb _ _ c.if-tally-4.true,
      lt-leb _ _ c.if-tally-5.false,
    )

pub returns-else-tally-4 : goal.returns-else-tally-4
unfolding tally_within
returns-else-tally-4 c =
    let if3 = c.if-tally-2 in
    let if2 = c.if-tally in
    let if1 = c.if-tally-le-MAX_PATCHES in
    rw (
      le-leb _ _ if1.true,
      le-leb _ _ if2.true,
      le-leb _ _ if3.true,
      le-leb _ _ c.if-tally-3.true,
      lt-leb _ _
          c.if-tally-4.false,
    )

pub returns-else-tally-3 : goal.returns-else-tally-3
unfolding tally_within
returns-else-tally-3 c =
    let if2 = c.if-tally in
    let if1 = c.if-tally-le-MAX_PATCHES in
    rw (le-leb _ _ if1.true, le-leb _ _ if2.true, le-leb _ _ c.if-tally-2.true, lt-leb _ _ c.if-tally-3.false)

pub returns-else-tally-2 : goal.returns-else-tally-2
unfolding tally_within
returns-else-tally-2 c = rw (le-leb _ _ c.if-tally-le-MAX_PATCHES.true, le-leb _ _ c.if-tally.true, lt-leb _ _ c.if-tally-2.false)

pub returns-else-tally : goal.returns-else-tally
unfolding tally_within
returns-else-tally c = rw (le-leb _ _ c.if-tally-le-MAX_PATCHES.true, lt-leb _ _ c.if-tally.false)

pub returns-else-tally-le-MAX_PATCHES : goal.returns-else-tally-le-MAX_PATCHES
unfolding tally_within
returns-else-tally-le-MAX_PATCHES c = rw (lt-leb _ _ c.if-tally-le-MAX_PATCHES.false)
