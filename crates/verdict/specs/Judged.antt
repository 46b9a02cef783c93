-- The whole answer to three point numbers: a refusal, or the verdict on their triangle. Definitions only.
use Rattle.std.specs.Prelude.{ℕ, ◌/◌, cond, ◌&&◌, not, List, [], ◌∷◌, ◌++◌, ltb, eqb, length, Result, Ok, Err, Float}
use Rattle.answers.specs.Answers.{missing_point, equal_numbers}
use Rattle.settings.specs.declared.BallPivotingConfig.{BallPivotingConfig}
use Rattle.domain.specs.Refusals.{Check, check, first_refusal, input_checks}
use Rattle.domain.specs.declared.Refusal.{Refusal}
use Rattle.points.specs.Points.{point_at}
use Rattle.triangle.specs.Quality.{quality}
use Rattle.verdict.specs.Verdict.{verdict_of}
use Rattle.verdict.specs.declared.MeasuredKind.{MeasuredKind}

-- 14 unless all three are numbers of n points, then 17 unless they differ
abbrev pub number_checks : ℕ → ℕ → ℕ → ℕ → List Check
number_checks n i j k =
    check (ltb i n && ltb j n && ltb k n) missing_point 0
    ∷ check (not (eqb i j) && not (eqb j k) && not (eqb k i)) equal_numbers 0
    ∷ []

-- 1 to 5 as in the main call, 14, 17
unfoldable pub judge_refusal : List Float → List Float → BallPivotingConfig → ℕ → ℕ → ℕ → Refusal
judge_refusal points normals settings i j k =
    first_refusal (input_checks points normals settings ++ number_checks (length points / 3) i j k)

-- the verdict on the triangle of the points i, j and k, in this order, at the main radius
unfoldable pub verdict_at : List Float → BallPivotingConfig → ℕ → ℕ → ℕ → MeasuredKind
unfolding verdict_of
verdict_at points s i j k =
    verdict_of (quality (point_at points i) (point_at points j) (point_at points k))
    s.radius s.min_triangle_area s.quality_threshold s.max_edge_factor

unfoldable pub judged : List Float → List Float → BallPivotingConfig → ℕ → ℕ → ℕ → Result MeasuredKind Refusal
unfolding judge_refusal verdict_at
judged points normals settings i j k =
    let r = judge_refusal points normals settings i j k in
    cond (eqb r.answer 0) (Ok (verdict_at points settings i j k)) (Err r)
