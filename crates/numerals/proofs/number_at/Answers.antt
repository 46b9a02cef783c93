-- `numerals::number_at` meets its contract. Assumes nothing.
use Rattle.numerals.proofs.Numeral.{number_signed}
use Rattle.numerals.proofs.number_at.Goals as goal

pub returns : goal.returns
returns c =
    let a = c.args in number_signed a.s.now a.at _ _ _ c.behind_minus.ensures
    c.byte_is.ensures c.magnitude_at.ensures
