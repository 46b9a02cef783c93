-- `numerals::magnitude_at` meets its contract: each way out is a case of `magnitude`. Assumes nothing.
use lib.Dec.{lit≤}
use Rattle.numerals.specs.Inner.Answers.{taken_means}
use Rattle.numerals.proofs.Numeral.{skipped_some, skipped_none, skipped_digits_ready, below_power, magnitude_bad, magnitude_read}
use Rattle.numerals.proofs.magnitude_at.Goals as goal

pub whole_of-units-requires : goal.whole_of-units-requires
whole_of-units-requires c = skipped_digits_ready _ _ _ _ (skipped_some _ _ _ _ c.in_ok-end.ensures) (lit≤ tt)

pub fraction_at-requires : goal.fraction_at-requires
fraction_at-requires c = below_power _ _ 5 c.whole_of-units.ensures.1 (skipped_some _ _ _ _ c.in_ok-end.ensures).few

pub returns-in_err-end : goal.returns-in_err-end
unfolding taken_means
returns-in_err-end c =
    let a = c.args in
    rw c.from_residual.ensures (magnitude_bad a.s.now a.at a.negative (skipped_none _ _ _ c.in_err-end.ensures))

pub returns : goal.returns
returns c =
    let a = c.args in
    magnitude_read a.s.now a.at a.negative _ (skipped_some _ _ _ _ c.in_ok-end.ensures) _ _ c.whole_of-units.ensures.0
    c.fraction_at.ensures
