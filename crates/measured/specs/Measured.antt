-- What a verdict measures is a number: it may be infinite, never a not-a-number. Definitions only.
use Rattle.std.specs.Prelude.{ℕ, ◌≡◌, not, List, Ok, T, Float}
use Rattle.std.specs.Float.Ieee.{is_nan}
use Rattle.settings.specs.declared.BallPivotingConfig.{BallPivotingConfig}
use Rattle.verdict.specs.Verdict.{measured_of}
use Rattle.verdict.specs.Judged.{judged}
use Rattle.verdict.specs.declared.MeasuredKind.{MeasuredKind}

-- whatever was asked
abbrev pub VerdictsMeasured : Type 0
VerdictsMeasured =
    (points normals : List Float) (s : BallPivotingConfig) (i j k : ℕ) (v : MeasuredKind)
    → judged points normals s i j k ≡ Ok v → T (not (is_nan (measured_of v)))
