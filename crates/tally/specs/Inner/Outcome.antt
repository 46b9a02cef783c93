-- What an addition comes to, as the code gives it. Definitions only.
use Rattle.std.specs.Prelude.{ℕ, cond, eqb, Result, Ok, Err}
use Rattle.tally.specs.declared.Tally.{Tally}
use Rattle.tally.specs.Tallies.{Added}

abbrev pub tally_result : Added → Result Tally ℕ
tally_result o = cond (eqb o.answer 0) (Ok o.tally) (Err o.answer)
