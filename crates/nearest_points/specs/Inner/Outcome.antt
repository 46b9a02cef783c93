-- What the checks and the search come to, as the code gives it and as C has it. Definitions only.
use Rattle.std.specs.Prelude.{Result, Ok, Err}
use Rattle.answers.specs.Inner.Outcome.{result_by}
use Rattle.domain.specs.declared.Refusal.{Refusal}
use Rattle.nearest_points.specs.Found.{answer_of}
use Rattle.nearest_points.specs.declared.Searched.{Searched}

abbrev pub search_result : Refusal → Result (Unit {0}) Searched
search_result f = result_by f.answer (answer_of f.answer f.detail)

abbrev pub searched : Result (Unit {0}) Searched → Searched
searched (Ok u) = answer_of 0 0
searched (Err r) = r
