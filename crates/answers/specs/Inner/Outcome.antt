-- What checks come to as the code gives it: the refusal, if its answer is one. Definitions only.
use Rattle.std.specs.Prelude.{ℕ, cond, eqb, Result, Ok, Err}

-- 0 accepts
abbrev pub result_by : {E : Type 0} → ℕ → E → Result (Unit {0}) E
result_by answer refusal = cond (eqb answer 0) (Ok tt) (Err refusal)
