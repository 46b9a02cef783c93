-- The whole answer in four numbers. Definitions only.
use Rattle.std.specs.Prelude.{Result, Ok, Err}
use Rattle.numbers.specs.Rounded.{f32}
use Rattle.domain.specs.declared.Refusal.{Refusal}
use Rattle.verdict.specs.Verdict.{kind_of, measured_of}
use Rattle.verdict.specs.declared.MeasuredKind.{MeasuredKind}
use Rattle.verdict.specs.declared.numbered.Verdict.{Verdict}

-- 0 and 0, the kind and what was measured; or the refusal, 0 and 0
unfoldable pub verdict_numbers : Result MeasuredKind Refusal → Verdict
unfolding kind_of measured_of
verdict_numbers (Err r) = record { answer = r.answer; detail = r.detail; kind = 0; measured = f32 0 }
verdict_numbers (Ok verdict) = record { answer = 0; detail = 0; kind = kind_of verdict; measured = measured_of verdict }
