-- What checks come to as the code gives it: nothing where all pass, or the refusal. Definitions only.
use Rattle.std.specs.Prelude.{Result}
use Rattle.answers.specs.Inner.Outcome.{result_by}
use Rattle.domain.specs.declared.Refusal.{Refusal}

abbrev pub result_of : Refusal → Result (Unit {0}) Refusal
result_of r = result_by r.answer r
