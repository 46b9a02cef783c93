-- Why a cloud is turned away before any work is done: the scope's answers 1 to 7, in its order. Definitions only.
use Rattle.std.specs.Prelude.{ℕ, ◌+◌, ◌*◌, ◌/◌, ◌%◌, Bool, cond, ◌&&◌, List, [], ◌∷◌, ◌++◌, leb, ltb, eqb, length, Float}
use Rattle.answers.specs.Answers.{no_points, wrong_lengths, too_many_points, outside_point, outside_setting}
use Rattle.answers.specs.Answers.{outside_percentile, short_work}
use Rattle.ranges.specs.Range.{first_outside, first_bad_point, farthest, percentile_inside}
use Rattle.settings.specs.Settings.{first_bad_setting}
use Rattle.settings.specs.declared.BallPivotingConfig.{BallPivotingConfig}
use Rattle.domain.specs.declared.Refusal.{Refusal}

-- one check: whether it passes, and the refusal if it does not
pub record Check : Type 0 where
  pub passes : Bool
  pub refusal : Refusal

abbrev pub refusal : ℕ → ℕ → Refusal
refusal answer detail = record { answer = answer; detail = detail }

abbrev pub check : Bool → ℕ → ℕ → Check
check passes answer detail = record { passes = passes; refusal = refusal answer detail }

-- the refusal of the first check that fails; answer 0 if all pass
unfoldable pub first_refusal : List Check → Refusal
first_refusal [] = refusal 0 0
first_refusal (c ∷ cs) = cond c.passes (first_refusal cs) c.refusal

-- work slices long enough for n points: 24n + 64 u32 and 4n + 64 f32
unfoldable pub roomy : ℕ → ℕ → ℕ → Bool
roomy n words floats = leb (24 * n + 64) words && leb (4 * n + 64) floats

-- 1 to 3, of the lengths of the points' and the normals' slices
abbrev pub size_checks : ℕ → ℕ → List Check
size_checks points normals =
    check (ltb 0 points) no_points 0
    ∷ check (eqb (points % 3) 0 && eqb normals points) wrong_lengths 0
    ∷ check (leb (points / 3) 4096) too_many_points 0
    ∷ []

abbrev pub point_check : ℕ → ℕ → Check
point_check n bad = check (leb n bad) outside_point bad

abbrev pub setting_check : ℕ → Check
setting_check bad = check (eqb bad 0) outside_setting bad

-- 1 to 4 of a cloud without normals, so of 2 only the first half can fail
abbrev pub points_checks : List Float → List Check
points_checks points =
    size_checks (length points) (length points) ++ (point_check (length points / 3) (first_outside farthest points) ∷ [])

-- 1 to 5: what every call with normals and settings asks first
abbrev pub input_checks : List Float → List Float → BallPivotingConfig → List Check
input_checks points normals settings =
    size_checks (length points) (length normals)
    ++ (point_check (length points / 3) (first_bad_point points normals) ∷ setting_check (first_bad_setting settings) ∷ [])

-- 7: what every call with work slices asks last
abbrev pub work_checks : ℕ → ℕ → ℕ → List Check
work_checks n words floats = check (roomy n words floats) short_work 0 ∷ []

-- the estimate: 1, 2, 3, 4, 6, 7
unfoldable pub estimate_refusal : List Float → Float → ℕ → ℕ → Refusal
estimate_refusal points percentile words floats =
    first_refusal
    (points_checks points
    ++ (check (percentile_inside percentile) outside_percentile 0
    ∷ work_checks (length points / 3) words floats))

-- the reconstruction: 1, 2, 3, 4, 5, 7
unfoldable pub reconstruct_refusal : List Float → List Float → BallPivotingConfig → ℕ → ℕ → Refusal
reconstruct_refusal points normals settings words floats =
    first_refusal (input_checks points normals settings ++ work_checks (length points / 3) words floats)
