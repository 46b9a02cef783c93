-- What the call gives, as C has it. Definitions only.
use Rattle.std.specs.Prelude.{Float, Result, Ok, Err}
use Rattle.numbers.specs.Rounded.{f32}
use Rattle.domain.specs.declared.Refusal.{Refusal}
use Rattle.estimate.specs.Estimate.{estimate}
use Rattle.estimate.specs.declared.Estimate.{Estimate}

abbrev pub estimate_by : Result Float Refusal → Estimate
estimate_by (Ok radius) = estimate 0 0 radius
estimate_by (Err r) = estimate r.answer r.detail (f32 0)
