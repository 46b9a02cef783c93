-- `settings::first_bad_setting` meets its contract. Assumes nothing.
use Rattle.ranges.proofs.Tests.{passed, failed}
use Rattle.settings.specs.Settings.{first_bad_setting, setting_tests, first_failing}
use Rattle.settings.proofs.first_bad_setting.Goals as goal

pub returns-then-not-in_range : goal.returns-then-not-in_range
unfolding first_bad_setting setting_tests first_failing
returns-then-not-in_range c = rw (failed c.in_range.ensures c.if-not-in_range.true)

pub returns-then-not-all_in_range : goal.returns-then-not-all_in_range
unfolding first_bad_setting setting_tests first_failing
returns-then-not-all_in_range c =
    rw (
      passed c.in_range.ensures c.if-not-in_range.false,
      failed c.all_in_range.ensures
          c.if-not-all_in_range.true,
    )

pub returns-then-not-all_in_range-2 : goal.returns-then-not-all_in_range-2
unfolding first_bad_setting setting_tests first_failing
returns-then-not-all_in_range-2 c =
    rw (
      passed c.in_range.ensures
          c.if-not-in_range.false,
      passed c.all_in_range.ensures
          c.if-not-all_in_range.false,
      failed c.all_in_range-2.ensures c.if-not-all_in_range-2.true,
    )

pub returns : goal.returns
unfolding first_bad_setting setting_tests first_failing
returns c =
    rw (
      passed c.in_range.ensures
          c.if-not-in_range.false,
      passed c.all_in_range.ensures
          c.if-not-all_in_range.false,
      passed c.all_in_range-2.ensures c.if-not-all_in_range-2.false,
    )
    c.first_bad_threshold.ensures
