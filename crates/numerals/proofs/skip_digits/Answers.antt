-- `numerals::skip_digits` meets its contract. Assumes nothing.
use mathlib.Core.Path.{◌∙◌}
use Rattle.numerals.proofs.Numeral.{skipped_found}
use Rattle.numerals.proofs.skip_digits.Goals as goal

pub returns : goal.returns
returns c =
    let a = c.args in
    c.then_some.ensures ∙ skipped_found a.s.now a.at a.most _ _ c.digits_end-end.ensures c.is_few.ensures
