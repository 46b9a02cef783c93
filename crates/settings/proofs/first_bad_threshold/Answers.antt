-- `settings::first_bad_threshold` meets its contract. Assumes nothing.
use Rattle.settings.specs.Settings.{first_failing}
use Rattle.ranges.proofs.Tests.{passed, failed}
use Rattle.settings.proofs.first_bad_threshold.Goals as goal

pub returns-then-not-in_range : goal.returns-then-not-in_range
unfolding first_failing
returns-then-not-in_range c = rw (failed c.in_range.ensures c.if-not-in_range.true)

pub returns-then-not-in_range-2 : goal.returns-then-not-in_range-2
unfolding first_failing
returns-then-not-in_range-2 c = rw (passed c.in_range.ensures c.if-not-in_range.false, failed c.in_range-2.ensures c.if-not-in_range-2.true)

pub returns-then-not-in_range-3 : goal.returns-then-not-in_range-3
unfolding first_failing
returns-then-not-in_range-3 c =
    rw (
      passed c.in_range.ensures c.if-not-in_range.false,
      passed
          c.in_range-2.ensures c.if-not-in_range-2.false,
      failed c.in_range-3.ensures c.if-not-in_range-3.true,
    )

pub returns-then-not-in_range-4 : goal.returns-then-not-in_range-4
unfolding first_failing
returns-then-not-in_range-4 c =
    rw (
      passed c.in_range.ensures
          c.if-not-in_range.false,
      passed c.in_range-2.ensures
          c.if-not-in_range-2.false,
      passed c.in_range-3.ensures c.if-not-in_range-3.false,
      failed
          c.in_range-4.ensures c.if-not-in_range-4.true,
    )

pub returns-then-not-is_rule : goal.returns-then-not-is_rule
unfolding first_failing
returns-then-not-is_rule c =
    rw (
      passed c.in_range.ensures
          c.if-not-in_range.false,
      passed
          c.in_range-2.ensures
          c.if-not-in_range-2.false,
      passed c.in_range-3.ensures
          c.if-not-in_range-3.false,
      passed c.in_range-4.ensures
          c.if-not-in_range-4.false,
      failed c.is_rule.ensures c.if-not-is_rule.true,
    )

pub returns : goal.returns
unfolding first_failing
returns c =
    rw (
      passed c.in_range.ensures
          c.if-not-in_range.false,
      passed
          c.in_range-2.ensures
          c.if-not-in_range-2.false,
      passed c.in_range-3.ensures
          c.if-not-in_range-3.false,
      passed c.in_range-4.ensures
          c.if-not-in_range-4.false,
      passed c.is_rule.ensures c.if-not-is_rule.false,
    )
