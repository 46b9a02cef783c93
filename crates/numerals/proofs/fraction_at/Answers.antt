-- `numerals::fraction_at` meets its contract: each way out is a case of `fraction`. Assumes nothing.
use mathlib.Core.Path.{sym, ◌∙◌}
use native.Mathlib.Omega.{arith}
use lib.Dec.{lit≤, lit<}
use Rattle.numerals.specs.Inner.Answers.{taken_means}
use Rattle.numerals.proofs.Bytes.{starts_inside}
use Rattle.numerals.proofs.Numeral.{few_most, skipped_some, skipped_none, skipped_digits_ready, fraction_none, fraction_bad, fraction_read}
use Rattle.numerals.proofs.fraction_at.Goals as goal

pub overflow_add-start : goal.overflow_add-start
overflow_add-start c =
    let h = starts_inside 46 c.args.s.now c.args.at
    (sym c.byte_is.ensures ∙ c.if-byte_is.true) in omega arith

pub whole_of-parts-requires : goal.whole_of-parts-requires
whole_of-parts-requires c = skipped_digits_ready _ _ _ _ (skipped_some _ _ _ _ c.in_ok-end.ensures) (lit≤ tt)

pub decimal_value-requires : goal.decimal_value-requires
decimal_value-requires c =
    record {
      units_small = c.requires;
      parts_small = c.whole_of-parts.ensures.1;
      places_few = (few_most _ 6 (skipped_some _ _ _ _ c.in_ok-end.ensures).few).1;
    }

pub decimal_value-requires-else-byte_is : goal.decimal_value-requires-else-byte_is
decimal_value-requires-else-byte_is c = record { units_small = c.requires; parts_small = lit< tt; places_few = lit≤ tt }

pub overflow_sub-end : goal.overflow_sub-end
overflow_sub-end c = (skipped_digits_ready _ _ _ _ (skipped_some _ _ _ _ c.in_ok-end.ensures) (lit≤ tt)).ordered

pub returns-in_ok-end : goal.returns-in_ok-end
unfolding taken_means
returns-in_ok-end c =
    fraction_read _ _ _ _ (sym c.byte_is.ensures ∙ c.if-byte_is.true) _ (skipped_some _ _ _ _ c.in_ok-end.ensures)
    c.decimal_value.result c.whole_of-parts.result c.whole_of-parts.ensures.0 c.decimal_value.ensures

pub returns-in_err-end : goal.returns-in_err-end
unfolding taken_means
returns-in_err-end c =
    let a = c.args in
    let bad = fraction_bad a.s.now a.at a.negative a.units (sym c.byte_is.ensures ∙ c.if-byte_is.true) (skipped_none _ _ _ c.in_err-end.ensures) in
    rw c.from_residual.ensures bad

pub returns-else-byte_is : goal.returns-else-byte_is
unfolding taken_means
returns-else-byte_is c =
    let s = c.args.s.now in let at = c.args.at in fraction_none s at _ _
    c.decimal_value-else-byte_is.result (sym c.byte_is.ensures ∙ c.if-byte_is.false) c.decimal_value-else-byte_is.ensures
