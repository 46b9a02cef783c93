-- What the calls give, as C has it. Definitions only.
use Rattle.std.specs.Prelude.{Bool, false, Result, Ok, Err}
use Rattle.domain.specs.declared.Refusal.{Refusal}
use Rattle.point_index.specs.declared.Indexed.{Indexed}
use Rattle.point_index.specs.declared.Belongs.{Belongs}

abbrev pub indexed : Result (Unit {0}) Refusal → Indexed
indexed (Ok u) = record { answer = 0; detail = 0 }
indexed (Err r) = record { answer = r.answer; detail = r.detail }

abbrev pub belonging : Result Bool Refusal → Belongs
belonging (Ok same) = record { answer = 0; detail = 0; belongs = same }
belonging (Err r) = record { answer = r.answer; detail = r.detail; belongs = false }
